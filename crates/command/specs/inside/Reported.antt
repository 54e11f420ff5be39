-- What is seen of lists that are checked, and what was done of one.
use Rattle.std.specs.Prelude.{◌≡◌, ◌≤◌, ◌+◌, ◌++◌, List, None, Option, Result, Some, IfSome, false, length, nat_lt, ℕ}
use Rattle.std.specs.List.{sum_by}
use Rattle.hashes.specs.declared.share.Share.{Share}
use Rattle.request.specs.CommandLine.{Text}
use Rattle.source.specs.Written.{Shown}
use Rattle.sumlist.specs.Lines.{lines}
use Rattle.sumlist.specs.Report.{Files, Meaning}
use Rattle.task.specs.declared.tasks.Reporting.{Reporting}
use Rattle.command.specs.Checking.{ListRuns, checked}
use Rattle.command.specs.Lines.{content_of, is_input, opens_of}
use Rattle.command.specs.Walks.{Walk}
use Rattle.command.specs.inside.Hashed.{ReadsOnce, files_of}
use Rattle.command.specs.inside.Seen.{Seen, opens_from}
use Rattle.command.specs.declared.fault.Fault.{Fault}

-- lists that are checked
abbrev pub checked_of : Meaning → Reporting → Option Files → List Text → Walk (Share × List ℕ) Text
checked_of m reporting files lists = checked m reporting (files_of files) (nat_lt 1 (length lists))

-- the share of the entries to come, and what is left of standard input, where that and the files are told
abbrev pub checked_state : Share → Option (List ℕ) → Option Files → Option (Share × List ℕ)
checked_state share None files = None
checked_state share (Some bytes) None = None
checked_state share (Some bytes) (Some files) = Some (share, bytes)

-- how often files are opened for a list and its lines
abbrev pub opens_in : List ℕ → Files → Text → ℕ
opens_in bytes files name = opens_of name + opens_from lines (content_of name bytes files)

-- so often, at most, files were opened for these lists, and an end of these bytes is left of standard input
pub record OpensLists (lists : List Text) (bytes : List ℕ) (files : Files) (after : Option (List ℕ)) (old new : ℕ)
    : Type 0 where
  pub front : List ℕ
  pub left : List ℕ
  pub is : after ≡ Some left
  pub split : bytes ≡ front ++ left
  pub most : new ≤ old + sum_by (opens_in bytes files) lists

-- the same where the bytes and the files are told, and the files stay
abbrev pub KeepsLists : List Text → (before after : Option (List ℕ)) → (files now : Option Files)
    → (old new : ℕ) → Type 0
KeepsLists lists before after files now old new = (now ≡ files)
    × IfSome before (λ bytes. IfSome files (λ files. OpensLists lists bytes files after old new))

-- a list was checked, and it was reported what there is to say of it
abbrev pub PrintsReport : Reporting → Meaning → Option Text → Text → Share → Share → List ℕ → Files → Result ℕ Fault
    → Seen → Seen → Shown → Shown → Type 0
PrintsReport reporting m list name share behind = ReadsOnce
    (λ bytes files run. ListRuns reporting files m list name share (content_of name bytes files) run behind)
    (is_input name) false
