-- How the lines of a list are counted, one by one.
use Rattle.std.specs.Prelude.{◌≡◌, ℕ, ◌+◌, List, []}
use Rattle.sumlist.specs.declared.verdict.Verdict.{Verdict}
use Rattle.sumlist.specs.declared.verdict.Verdict.TheVariants.{Matches, Differs, Missing, Unreadable, TooLong}
use Rattle.sumlist.specs.declared.summary.Mark.{Mark}
use Rattle.sumlist.specs.declared.summary.Mark.TheVariants.{Skipped, Malformed, Foreign, Told}
use Rattle.sumlist.specs.declared.summary.Summary.{Summary}
use Rattle.sumlist.specs.Report.{Outcome, skipped, malformed, foreign, summary_of, told, with_line}

-- an outcome without its name
abbrev pub mark_of : Outcome → Mark
mark_of skipped = Skipped
mark_of malformed = Malformed
mark_of (foreign look) = Foreign look
mark_of (told name v) = Told v

-- an outcome of this mark
abbrev pub outcome_of : Mark → Outcome
outcome_of Skipped = skipped
outcome_of Malformed = malformed
outcome_of (Foreign look) = foreign look
outcome_of (Told v) = told [] v

-- one for the same verdict, else none
abbrev pub same : Verdict → Verdict → ℕ
same Matches Matches = 1
same Differs Differs = 1
same Missing Missing = 1
same Unreadable Unreadable = 1
same TooLong TooLong = 1
same v w = 0

-- one for the same mark, or one that is counted with it, else none
abbrev pub part : Mark → Mark → ℕ
part Skipped Skipped = 1
part Malformed Malformed = 1
part Malformed (Foreign look) = 1
part (Told v) (Told w) = same v w
part m n = 0

-- one for an unreadable file, else none
abbrev pub unreadable_by : Verdict → ℕ
unreadable_by v = same Unreadable v

-- the same of an outcome
abbrev pub unreadable_in : Outcome → ℕ
unreadable_in (told name v) = unreadable_by v
unreadable_in o = 0

-- how many of these are unreadable
abbrev pub unreadable_count : List Outcome → ℕ
unreadable_count outcomes = (summary_of outcomes).unreadable

-- how many lines were counted
abbrev pub lines_of : Summary → ℕ
lines_of s = s.ok + s.failed + s.missing + s.unreadable + s.too_long + s.malformed + s.skipped

-- one for an entry, else none
abbrev pub entry_by : Mark → ℕ
entry_by (Told v) = 1
entry_by m = 0

-- one more line, of this mark
pub record IsCounted (mark : Mark) (old new : Summary) : Type 0 where
  pub whole : new ≡ with_line old (outcome_of mark)
  pub ok : new.ok ≡ old.ok + part (Told Matches) mark
  pub failed : new.failed ≡ old.failed + part (Told Differs) mark
  pub missing : new.missing ≡ old.missing + part (Told Missing) mark
  pub unreadable : new.unreadable ≡ old.unreadable + part (Told Unreadable) mark
  pub too_long : new.too_long ≡ old.too_long + part (Told TooLong) mark
  pub malformed : new.malformed ≡ old.malformed + part Malformed mark
  pub skipped : new.skipped ≡ old.skipped + part Skipped mark
