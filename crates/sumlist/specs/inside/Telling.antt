-- What a list that is read beside its report comes to.
use Rattle.std.specs.Prelude.{◌≡◌, ◌<◌, ⊤, ℕ, ◌+◌, ◌-◌, ◌^◌, Bool, false, true, List, [], ◌∷◌, ◌++◌, Option, Some}
use Rattle.std.specs.Prelude.{Result, Ok, Err, MatchOption, drop, length, option_map, take}
use Rattle.std.specs.List.{AllZip}
use Rattle.source.specs.Counts.{next_count}
use Rattle.source.specs.declared.pumping.SourceFault.{SourceFault}
use Rattle.source.specs.declared.pumping.SourceFault.TheVariants.{Read, TooLong}
use Rattle.sumlist.specs.Escape.{escaped}
use Rattle.sumlist.specs.Lines.{lines}
use Rattle.sumlist.specs.Report.{IsPossible, Meaning, Outcome, report_from, summary_of, text, verdict_text}
use Rattle.sumlist.specs.declared.report_reader.ReportReader.{ReportReader}
use Rattle.sumlist.specs.declared.summary.Summary.{Summary}
use Rattle.sumlist.specs.declared.telling.TellFault.{TellFault}
use Rattle.sumlist.specs.declared.summary.Mark.{Mark}
use Rattle.sumlist.specs.declared.telling.TellFault.TheVariants.{ListRead, ListTooLong, OtherLine, OutOfMemory}
use Rattle.sumlist.specs.declared.telling.TellFault.TheVariants.{ReportRead, ReportTooLong}
use Rattle.sumlist.specs.inside.Marks.{mark_of}
use Rattle.sumlist.specs.declared.verdict.Verdict.{Verdict}

-- a list is not read to its end
abbrev pub of_list : SourceFault → TellFault
of_list Read = ListRead
of_list TooLong = ListTooLong

-- what was read of a report and is yet to be taken
abbrev pub ahead : {F : Type 0} → ReportReader F → List ℕ
ahead r = drop r.start (take r.end r.buffer)

-- what is left of it, if that is known
abbrev pub left : {F : Type 0} → (F → Option (List ℕ)) → ReportReader F → Option (List ℕ)
left remaining r = option_map (λ bytes. ahead r ++ bytes) (remaining r.feed.now)

-- whether something is left, of which nothing was taken
abbrev pub HasMore : List ℕ → Option (List ℕ) → Bool → Type 0
HasMore bytes rest true = (0 < length bytes) × (rest ≡ Some bytes)
HasMore bytes rest false = (bytes ≡ []) × (rest ≡ Some [])

-- whether a text came next, which was then taken
abbrev pub Takes : List ℕ → List ℕ → Option (List ℕ) → Bool → Type 0
Takes t bytes rest true = (behind : List ℕ) × (bytes ≡ t ++ behind) × (rest ≡ Some behind)
Takes t bytes rest false = (behind : List ℕ) → bytes ≡ t ++ behind → ⊥

-- the same of the line of an entry of this name, with any verdict
abbrev pub TakesVerdict : List ℕ → List ℕ → Option (List ℕ) → Option Verdict → Type 0
TakesVerdict name bytes rest found = MatchOption found
    ((v : Verdict) (behind : List ℕ) → bytes ≡ (escaped name ++ verdict_text v) ++ behind → ⊥)
    (λ v. (behind : List ℕ) × (bytes ≡ (escaped name ++ verdict_text v) ++ behind) × (rest ≡ Some behind))

-- how that ended
abbrev pub Ended : Meaning → Option (List ℕ) → List Outcome → (before after : List (List ℕ)) → List ℕ → Option (List ℕ)
    → (report : List ℕ) → ℕ → Result Summary TellFault → Type 0
Ended m name outcomes before after behind rest report i (Ok s) =
    (after ≡ []) × (s ≡ summary_of outcomes) × (rest ≡ Some behind)
Ended m name outcomes before after behind rest report i (Err OtherLine) = (line : List ℕ) × (others : List (List ℕ))
    × (after ≡ line ∷ others) × ((o : Outcome) (end : List ℕ) → IsPossible m line o
    → behind ≡ text name (length before + 1) o ++ end → ⊥)
Ended m name outcomes before after behind rest report i (Err ListRead) = rest ≡ Some behind
Ended m name outcomes before after behind rest report i (Err ListTooLong) = rest ≡ Some behind
Ended m name outcomes before after behind rest report i (Err ReportTooLong) = 2 ^ 64 < i + length report
Ended m name outcomes before after behind rest report i (Err fault) = ⊤

-- lines of a list have the outcomes that the report gives them, whose lines in it are counted: all lines of the list;
-- or those before one that has none, or before a fault
abbrev pub ListBeside : Meaning → Option (List ℕ) → (list report : List ℕ) → (count_old count_new : ℕ)
    → Option (List ℕ) → Result Summary TellFault → Type 0
ListBeside m name list report i j rest r = (outcomes : List Outcome) × (before : List (List ℕ))
    × (after : List (List ℕ)) × (lines list ≡ before ++ after) × AllZip (IsPossible m) before outcomes
    × (behind : List ℕ) × (report ≡ report_from name 1 outcomes ++ behind)
    × (j ≡ i + (length outcomes - (summary_of outcomes).skipped))
    × Ended m name outcomes before after behind rest report i r

-- what a report that goes on like this says of the line of this number: it has an outcome of this mark, whose text was
-- taken; or none whose text comes next
abbrev pub Tells : Meaning → Option (List ℕ) → List ℕ → ℕ → List ℕ → Option (List ℕ) → Result Mark TellFault → Type 0
Tells m name line n bytes rest (Ok mark) = (o : Outcome) × IsPossible m line o × (mark_of o ≡ mark)
    × (behind : List ℕ) × (bytes ≡ text name n o ++ behind) × (rest ≡ Some behind)
Tells m name line n bytes rest (Err OtherLine) =
    (o : Outcome) (behind : List ℕ) → IsPossible m line o → bytes ≡ text name n o ++ behind → ⊥
Tells m name line n bytes rest (Err fault) = ⊤

-- only a read of the report that failed is one more failure, and nothing was found of the list itself
abbrev pub TellCounts : {T : Type 0} → Result T TellFault → ℕ → ℕ → Type 0
TellCounts (Ok _) old new = new ≡ old
TellCounts (Err ListRead) old new = ⊥
TellCounts (Err ListTooLong) old new = ⊥
TellCounts (Err ReportRead) old new = new ≡ next_count old
TellCounts (Err ReportTooLong) old new = ⊥
TellCounts (Err OtherLine) old new = new ≡ old
TellCounts (Err OutOfMemory) old new = new ≡ old
