-- What the reading of lists beside their report came to, by the answers of functions.
use Rattle.std.specs.Prelude.{◌⊎◌, ◌≡◌, ◌≤◌, ℕ, ◌+◌, ◌-◌, ◌^◌, Bool, false, List, [], ◌∷◌, ◌++◌, Option, None, Some}
use Rattle.std.specs.Prelude.{nat_le, nat_lt, IsSomeAnd, Result, if◌then◌else◌, length}
use Rattle.std.specs.List.{AllZip}
use Rattle.request.specs.CommandLine.{Text}
use Rattle.source.specs.Counts.{count_after}
use Rattle.source.specs.Written.{Shown}
use Rattle.sumlist.specs.Lines.{lines}
use Rattle.sumlist.specs.Report.{Files, IsPossible, Meaning, Outcome, report_from, summary_of, text}
use Rattle.sumlist.specs.Tally.{is_clean}
use Rattle.task.specs.declared.tasks.Reporting.{Reporting}
use Rattle.command.specs.Checking.{Beside, by_report, ends_at, notes_of}
use Rattle.command.specs.Lines.{content_of, is_input}
use Rattle.command.specs.Run.{IsRefused, Run, TellsAll, prints}
use Rattle.command.specs.Walks.{Walk}
use Rattle.command.specs.inside.Hashed.{files_of}
use Rattle.command.specs.inside.Seen.{Does, Seen}
use Rattle.command.specs.inside.Troubles.{Counted, Failures, counts, failures_from, plus}
use Rattle.command.specs.declared.fault.Fault.{Fault}
use Rattle.command.specs.declared.told.Telling.{Telling}

-- before the line of this number, each line of a report had a byte at least
abbrev pub HasRoom : Text → Text → ℕ → Type 0
HasRoom whole left n = n + length left ≤ length whole + 1

-- a list with this content was read beside its report, of which all was these bytes, from the line of this number on;
-- what is left of it, and the number of its next line, follow
abbrev pub BesideRuns : Reporting → Meaning → Option Text → (name report : Text) → Option (List ℕ) → (whole left : Text)
    → ℕ → Option Text → ℕ → Run → Type 0
BesideRuns reporting m title name report content whole left n rest next run =
    IsRefused (2 ^ 64 - 1) (is_input name) name content run ⊎ IsRefused (2 ^ 64 - 1) false report (Some whole) run
    ⊎ IsSomeAnd content (λ bytes. (outcomes : List Outcome) × (before : List (List ℕ)) × (after : List (List ℕ))
    × (lines bytes ≡ before ++ after) × AllZip (IsPossible m) before outcomes
    × (behind : Text) × (left ≡ report_from title 1 outcomes ++ behind)
    × let s = summary_of outcomes in let last = n + (length outcomes - s.skipped) in (((after ≡ [])
    × (run ≡ record (prints [] (if is_clean s then 0 else 1)) { notes = notes_of reporting m title name s })
    × (rest ≡ Some behind) × (next ≡ last))
    ⊎ ((line : List ℕ) × (others : List (List ℕ)) × (after ≡ line ∷ others) × (run ≡ ends_at report last)
    × ((o : Outcome) (end : Text) → IsPossible m line o → behind ≡ text title (length before + 1) o ++ end → ⊥))))

-- a run of these was done, which prints nothing, by its answer, what was reported and the failures that were counted
pub record IsTold (is : Run → Type 0) (r : Result ℕ Fault) (before after : Shown) (counted : List Bool
    → Type 0) : Type 0
  where
    pub run : Run
    pub is_run : is run
    pub does : (out : Shown) → Does run r out out
    pub notes : TellsAll before after run.notes
    pub counts : counted run.failures

-- standard input, files and the report have counted these failures
abbrev pub ReportCounted : List Bool → (i j u v x y : ℕ) → Type 0
ReportCounted failures i j u v x y = (own : Failures) × (of_report : ℕ)
    × (counts failures ≡ plus own (failures_from false of_report)) × Counted own i j u v × (y ≡ count_after x of_report)

abbrev pub ReportOf : Seen → Seen → ℕ → ℕ → List Bool → Type 0
ReportOf old new x y failures =
    ReportCounted failures old.input_failures new.input_failures old.file_failures new.file_failures x y

-- the list of this name was read so, where its content and what is left of the report are known
abbrev pub ToldOver : Reporting → Meaning → Option Text → (name report : Text) → Option Text → ℕ → Option Text → ℕ
    → Result ℕ Fault → Seen → Seen → Shown → Shown → ℕ → ℕ → Type 0
ToldOver reporting m title name report left n rest next r old new before after x y = (bytes coming whole : List ℕ)
    (files : Files) → old.bytes ≡ Some bytes → old.files ≡ Some files → left ≡ Some coming → HasRoom whole coming n
    → IsTold (BesideRuns reporting m title name report (content_of name bytes files) whole coming n rest next)
    r before after
    (ReportOf old new x y)

-- what the reading of a list leaves as it is
pub record KeepsReport {F : Type 0} (old new : Telling F) (a b : Seen) : Type 0 where
  pub name : new.name ≡ old.name
  pub entries : new.entries ≡ old.entries
  pub feed : new.report.feed.ghost_name ≡ old.report.feed.ghost_name
  pub files : b.files ≡ a.files
  pub out : b.out ≡ a.out

-- lists beside their report
abbrev pub by_report_of : Meaning → Reporting → Option Files → List Text → Text → Walk Beside Text
by_report_of m reporting files lists report = by_report m reporting (files_of files) (nat_lt 1 (length lists)) report

-- what is left of the report, of these bytes, before the line of this number, if each line before had a byte
abbrev pub roomy : Text → ℕ → List ℕ → Option Text → Option Beside
roomy left n bytes None = None
roomy left n bytes (Some whole) = if nat_le (n + length left) (length whole + 1)
    then Some (record { left = left; number = n; input = bytes }) else None

-- and of standard input, where all of that is told
abbrev pub told_state : Text → Option Text → ℕ → Option (List ℕ) → Option Files → Option Beside
told_state report None n bytes files = None
told_state report (Some left) n None files = None
told_state report (Some left) n (Some bytes) None = None
told_state report (Some left) n (Some bytes) (Some files) = roomy left n bytes (files report)
