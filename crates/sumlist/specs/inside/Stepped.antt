-- What the check of one line did.
use Rattle.std.specs.Prelude.{◌⊎◌, ◌≡◌, ◌≤◌, ◌<◌, ⊤, ℕ, List, None, Option, Result, Ok, Err, IsSome, MatchResult}
use Rattle.std.specs.Prelude.{◌∷◌, Bool, false, length, suc, true}
use Rattle.std.specs.Io.KnownBytes.{Appends}
use Rattle.hashes.specs.declared.share.Share.{Share}
use Rattle.source.specs.Counts.{count_after, next_count}
use Rattle.source.specs.Written.{AppendsPrefix}
use Rattle.source.specs.declared.pumping.SourceFault.{SourceFault}
use Rattle.source.specs.declared.pumping.SourceFault.TheVariants.{Read, TooLong}
use Rattle.sumlist.specs.Entry.{Listing}
use Rattle.sumlist.specs.Line.{IsSkipped}
use Rattle.sumlist.specs.Report.{Allowed, Files, IsEntryIn, IsForeign, Meaning, Outcome, malformed, text, verdict_of}
use Rattle.sumlist.specs.Report.{keyed, unkeyed}
use Rattle.sumlist.specs.Shared.{shared}
use Rattle.sumlist.specs.inside.Marks.{mark_of, unreadable_in}
use Rattle.sumlist.specs.declared.checking.CheckFault.{CheckFault}
use Rattle.sumlist.specs.declared.checking.CheckFault.TheVariants.{ListRead, Write, OutOfMemory, ListTooLong}
use Rattle.sumlist.specs.declared.entries.Entries.{Entries}
use Rattle.sumlist.specs.declared.entries.Entries.TheVariants.{Digests, Tags}
use Rattle.sumlist.specs.declared.line.Line.{Line}
use Rattle.sumlist.specs.declared.line.Line.TheVariants as said
use Rattle.sumlist.specs.declared.line.LineFault.{LineFault}
use Rattle.sumlist.specs.declared.line.LineFault.TheVariants as fault
use Rattle.sumlist.specs.declared.summary.Mark.{Mark}
use Rattle.sumlist.specs.declared.summary.Mark.TheVariants.{Foreign, Malformed}
use Rattle.sumlist.specs.declared.verdict.Verdict.{Verdict}
use Rattle.sumlist.specs.declared.verdict.Verdict.TheVariants.{Unreadable}

-- what the entries of a list are; the first two functions say what a function of a key takes and makes
abbrev pub meaning_of : {M : Type 0} → (M → ℕ) → (M → List ℕ → List ℕ) → Entries M → Meaning
meaning_of limit makes (Digests kind) = unkeyed kind
meaning_of limit makes (Tags n f) = keyed n (limit f.now) (makes f.now)

-- all that comes is so many bytes at most, and this was made of it; or a read of it failed, or it is longer
abbrev pub Makes : ℕ × (List ℕ → List ℕ) → List ℕ → Result (List ℕ) SourceFault → Type 0
Makes maker m (Ok tag) = (length m ≤ maker.0) × (tag ≡ maker.1 m)
Makes maker m (Err Read) = ⊤
Makes maker m (Err TooLong) = maker.0 < length m

-- what a line says in such a list; if memory ran out, nothing is known of it
abbrev pub Reads : Meaning → List ℕ → Result Line LineFault → Type 0
Reads m line (Ok said.Skipped) = IsSkipped line
Reads m line (Ok (said.Entry e)) = IsEntryIn m line e
Reads m line (Err fault.Malformed) = (IsSkipped line → ⊥) × ((e : Listing) → IsEntryIn m line e → ⊥)
Reads m line (Err fault.OutOfMemory) = ⊤

-- the mark of a malformed line
abbrev pub MarksMalformed : Meaning → List ℕ → Mark → Type 0
MarksMalformed m line Malformed = Allowed (λ _. None) m line malformed
MarksMalformed m line (Foreign look) = IsForeign m line look
MarksMalformed m line _ = ⊥

-- a verdict that may stand for a digest or tag whose name has this content, or none
abbrev pub IsAllowed : ℕ × (List ℕ → List ℕ) → List ℕ → Option (List ℕ) → Verdict → Type 0
IsAllowed maker tag content v = (v ≡ verdict_of maker tag content) ⊎ ((v ≡ Unreadable) × IsSome content)

-- an outcome that may stand for the line, and which the tree counted
pub record Stepped (files : Files) (m : Meaning) (line : List ℕ) (outcome : Outcome) (count_old count_new : ℕ)
    : Type 0 where
  pub allowed : Allowed files m line outcome
  pub counted : count_new ≡ count_after count_old (unreadable_in outcome)

-- the line of this number, in a list of this name if it has one, has an outcome, and its text was appended, or
-- after a fault a beginning of it
abbrev pub LineChecked : {E : Type 0} → Files → Meaning → Option (List ℕ) → List ℕ → ℕ → Result Mark E → ℕ → ℕ
    → Option (List ℕ) → Option (List ℕ) → Type 0
LineChecked files m name line number r count_old count_new old new =
    (o : Outcome) × Stepped files m line o count_old count_new
    × MatchResult r (λ mark. (mark_of o ≡ mark) × Appends old new (text name number o))
    (λ _. AppendsPrefix old new (text name number o))

-- only a write that failed is one more failure of the sink, and nothing else was read or found too long
abbrev pub StepCounts : {T : Type 0} → Result T CheckFault → ℕ → ℕ → Type 0
StepCounts (Ok _) old new = new ≡ old
StepCounts (Err ListRead) old new = ⊥
StepCounts (Err Write) old new = new ≡ next_count old
StepCounts (Err OutOfMemory) old new = new ≡ old
StepCounts (Err ListTooLong) old new = ⊥

-- whether a line is another share's, and which share is left after it: a line that is skipped leaves it as it is
abbrev pub Passes : List ℕ → Share → Share → Bool → Type 0
Passes line old new true = (IsSkipped line → ⊥) × (old ≡ record new { waiting = suc new.waiting })
Passes line old new false = (IsSkipped line × (new ≡ old))
    ⊎ ((IsSkipped line → ⊥) × (old.waiting ≡ 0) × (new ≡ record old { waiting = old.others }))

-- a share makes `own` of a line's outcome, and goes on as the share `behind`
pub record Shares (share behind : Share) (o own : Outcome) : Type 0 where
  pub others : behind.others ≡ share.others
  pub is : (os : List Outcome) → let rest = shared behind.others behind.waiting os in
      shared share.others share.waiting (o ∷ os) ≡ (own ∷ rest.0, rest.1)

-- the line of this number, in a list of this name if it has one, has an outcome, and the text of what the share
-- makes of it was appended, or after a fault a beginning of that
abbrev pub LineShared : {E : Type 0} → Files → Meaning → Option (List ℕ) → Share → Share → List ℕ → ℕ → Result Mark E
    → ℕ → ℕ → Option (List ℕ) → Option (List ℕ) → Type 0
LineShared files m name share behind line number r count_old count_new old new =
    (o : Outcome) × (own : Outcome) × Allowed files m line o × Shares share behind o own
    × (count_new ≡ count_after count_old (unreadable_in own))
    × MatchResult r (λ mark. (mark_of own ≡ mark) × Appends old new (text name number own))
    (λ _. AppendsPrefix old new (text name number own))

-- what a fault in the reading of the list means
abbrev pub stop_of : SourceFault → CheckFault
stop_of Read = ListRead
stop_of TooLong = ListTooLong
