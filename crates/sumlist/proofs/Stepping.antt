-- A list that is checked line by line: a line's outcome comes before those of the lines that are left.
use Rattle.hashes.specs.declared.share.Share.{Share}
use Rattle.sumlist.proofs.Common.{◌≡◌, ◌≤◌, ◌+◌, ◌++◌, List, [], ◌∷◌, subst, sym, Option, None, Some}
use Rattle.sumlist.proofs.Common.{◌∙◌, IfSome, ap, refl, IfSome_then, IsErr, Result, Err, Ok, arith, Appends-nil}
use Rattle.sumlist.proofs.Common.{Appends-trans, AppendsPrefix, Mark, Meaning, Summary, CheckFault, Files}
use Rattle.sumlist.proofs.Common.{IsCounted, ListChecked, MatchResult-from_err, Outcome, lines_of, no_lines}
use Rattle.sumlist.proofs.Common.{Consumes, true, with_line, ℕ, common_steps}
use Rattle.std.proofs.KnownBytes.{Consumes-trans}
use Rattle.std.proofs.lemmas.Result.{MatchResult-weaker}
use Rattle.source.proofs.Writing.{AppendsPrefix-after, AppendsPrefix-more, AppendsPrefix-none}
use Rattle.sumlist.specs.Lines.{IsKept}
use Rattle.std.specs.Borrow.{Bor}
use Rattle.std.specs.Prelude.{MatchOption, MatchResult, fold, option_map}
use Rattle.sumlist.specs.Report.{report_from, summary_of}
use Rattle.sumlist.specs.inside.Ahead.{Checks, OpensEach, RestChecked}
use Rattle.sumlist.specs.inside.Marks.{mark_of, outcome_of}
use Rattle.sumlist.specs.Shared.{shared}
use Rattle.sumlist.specs.inside.Stepped.{LineShared}
use Rattle.sumlist.specs.inside.Taking.{IsNextPiece}
use Rattle.sumlist.proofs.Deciding.{all_settled, unreadable-cons}
use Rattle.sumlist.proofs.SharedLines.{shared-settled}

-- ---- lines

-- a name is not counted
pub same_line : (s : Summary) (o : Outcome) → with_line s (outcome_of (mark_of o)) ≡ with_line s o
same_line s o = grind arith

module _ {files : Files} {k : Meaning} {name : Option (List ℕ)} {share : Share} {s : Summary} {m : ℕ}
    {b : Option (List ℕ)} where
  rest-none : RestChecked files k name share share [] s (Ok s) m m b b
  unfolding report_from summary_of
  rest-none = record { outcomes = []; allowed = tt; counted = omega arith; told = (refl, refl, Appends-nil b) }

  -- a fault before any
  rest-halted : {behind : Share} {ls : List (List ℕ)} {r : Result Summary CheckFault} → IsErr r
      → RestChecked files k name share behind ls s r m m b b
  rest-halted {ls} {r} stopped =
      let os = all_settled files k ls in
      let none = shared-settled share.others share.waiting os.0 os.2 in
      record {
        outcomes = os.0;
        allowed = os.1;
        counted = omega (arith, none);
        told = MatchResult-from_err r _ _ stopped (λ _. AppendsPrefix-none b _);
      }

  module _ {after behind : Share} {line : List ℕ} {ls : List (List ℕ)} {r : Result Summary CheckFault} {n : ℕ}
      {c : Option (List ℕ)} where
    -- a fault at the first
    rest-stopped : (f : CheckFault) → IsErr r
        → LineShared files k name share after line (lines_of s + 1) (Err f) m n b c
        → RestChecked files k name share behind (line ∷ ls) s r m n b c
    unfolding report_from
    rest-stopped f stopped l =
        let own = l.1 in
        let os = all_settled files k ls in
        let left = (shared after.others after.waiting os.0).0 in
        let none = shared-settled after.others after.waiting os.0 os.2 in
        let is = l.3.is os.0 in
        let begun : AppendsPrefix b c (report_from name (lines_of s + 1) (own ∷ left)) =
        AppendsPrefix-more b c _ (report_from name (lines_of s + 1 + 1) left) l.5 in
        record {
          outcomes = l.0 ∷ os.0;
          allowed = (l.2, os.1);
          counted = rw is (omega (arith, l.4, none, unreadable-cons own left));
          told = rw is (MatchResult-from_err r _ _ stopped (λ _. begun));
        }

    -- the first was checked or passed over, and then the rest
    rest-line : {mark : Mark} {u : Summary} {p : ℕ} {d : Option (List ℕ)}
        → LineShared {E = CheckFault} files k name share after line (lines_of s + 1) (Ok mark) m n b c
        → IsCounted mark s u → RestChecked files k name after behind ls u r n p c d
        → RestChecked files k name share behind (line ∷ ls) s r m p b d
    unfolding report_from
    rest-line {u} {d} l counted q =
        let own = l.1 in
        let left = shared after.others after.waiting q.outcomes in
        let is = l.3.is q.outcomes in
        let grown = subst (λ x. IsCounted x s u) (sym l.5.0) counted in
        let up : lines_of u ≡ lines_of s + 1 = grind arith in
        let goes_on : (record after { waiting = left.1 }) ≡ record share { waiting = left.1 } = rw l.3.others refl in
        record {
          outcomes = l.0 ∷ q.outcomes;
          allowed = (l.2, q.allowed);
          counted = rw is (omega (arith, l.4, q.counted, unreadable-cons own left.0));
          told = rw is (MatchResult-weaker r q.told
              (λ t h. (
                h.0 ∙ ap (λ x. fold with_line x left.0) (grown.whole ∙ same_line s own),
                h.1 ∙ goes_on,
                Appends-trans b c d _ _ l.5.1 (rw up at h.2),
              ))
              (λ _ h. AppendsPrefix-after b c d _ _ l.5.1 (rw up at h)));
        }

-- ---- what is told

pub IfSome-all : {X : Type 0} (r : Option X) {P : X → Type 0} → ((x : X) → P x) → IfSome r P
IfSome-all r h = grind arith

-- what was read before, and then
pub all_read : (whole rest rest' : Option (List ℕ)) (read given : List ℕ) (P : List ℕ → Type 0)
    → Consumes whole rest read → Consumes rest rest' given → P (read ++ given)
    → IfSome whole (λ _. (all : List ℕ) × Consumes whole rest' all × P all)
all_read whole rest rest' read given P before after h = grind (arith, common_steps, IfSome-all, Consumes-trans)

-- what follows from two clauses on one value
pub IfSome-two : {X : Type 0} {r s : Option X} {P Q R : X → Type 0} → s ≡ r → IfSome r P → IfSome s Q
    → ((x : X) → P x → Q x → R x) → IfSome r R
IfSome-two same p q h = grind arith

-- what holds besides after a fault
after_fault : (r : Result Summary CheckFault) (P : Summary → Type 0) (Q R : Type 0) → (IsErr r → R)
    → MatchResult r P (λ _. Q) → MatchResult r P (λ _. R × Q)
after_fault r P Q R same h = grind (arith, common_steps)

module _ {rest : Option (List ℕ)} {known : Option Files} {k : Meaning} {name : Option (List ℕ)} {share : Share}
    {r : Result Summary CheckFault} {n : ℕ} {c : Option (List ℕ)} where
  -- no line came before, and a fault leaves the share as it was
  pub checks-all : {behind : Share} {m : ℕ} {b : Option (List ℕ)} → (IsErr r → behind ≡ share)
      → Checks rest known k name share behind [] no_lines r m n b c
      → IfSome rest (λ list. IfSome known (λ files. ListChecked files k name list share behind r m n b c))
  unfolding summary_of
  checks-all same h = grind (arith, common_steps, IfSome_then, after_fault)

  pub checks-halted : {behind : Share} {ahead : List ℕ} {s : Summary} → IsErr r
      → Checks rest known k name share behind ahead s r n n c c
  checks-halted stopped = record { of = IfSome-all rest (λ _. IfSome-all known (λ _. rest-halted stopped)) }

-- no line is left
pub checks-none : {rest : Option (List ℕ)} {known : Option Files} {k : Meaning} {name : Option (List ℕ)}
    {share : Share} {ahead : List ℕ} {s : Summary} {n : ℕ} {c : Option (List ℕ)} (rest' : Option (List ℕ))
    (ahead' : List ℕ) → IfSome rest (λ bytes. (left : List ℕ) × (rest' ≡ Some left)
    × ((ahead ++ bytes ≡ []) × (ahead' ++ left ≡ [])))
    → Checks rest known k name share share ahead s (Ok s) n n c c
checks-none {rest} {known} rest' ahead' ended = record {
  of = IfSome_then rest ended (λ _ t. IfSome-all known (λ _. rw t.2.0 rest-none));
}

-- what is kept of a line, as it was handed out
pub kept-line : (line : Option (Bor (List ℕ))) (kept : Option (List ℕ))
    → MatchOption line (kept ≡ None) (λ l. kept ≡ Some l.now) → option_map (λ l. l.now) line ≡ kept
kept-line line kept is = grind (arith, common_steps)

-- the next line was taken
abbrev pub NextTaken : Option (List ℕ) → Option (List ℕ) → List ℕ → Option (List ℕ) → List ℕ → Type 0
NextTaken kept rest ahead rest' ahead' = IfSome rest (λ bytes. (left : List ℕ) × (rest' ≡ Some left)
    × IsNextPiece 10 true kept (ahead ++ bytes) (ahead' ++ left))

-- what the check of a line says, of which this is kept
abbrev NextChecked : Option Files → Meaning → Option (List ℕ) → Share → Share → Option (List ℕ) → ℕ
    → Result Mark CheckFault → ℕ → ℕ → Option (List ℕ) → Option (List ℕ) → Type 0
NextChecked known k name share after kept number r m n b c = IfSome known (λ files. (line : List ℕ) → IsKept kept line
    → LineShared files k name share after line number r m n b c)

module _ (kept rest : Option (List ℕ)) (ahead : List ℕ) (rest' : Option (List ℕ)) (ahead' : List ℕ)
    (known : Option Files) (next : NextTaken kept rest ahead rest' ahead') {k : Meaning} {name : Option (List ℕ)}
    (after : Share) {share behind : Share} {s : Summary}
    {r : Result Summary CheckFault} {n o : ℕ} {c d : Option (List ℕ)} where
  pub checks-stopped : (f : CheckFault) → IsErr r
      → NextChecked known k name share after kept (lines_of s + 1) (Err f) n o c d
      → Checks rest known k name share behind ahead s r n o c d
  checks-stopped f stopped checked = record {
    of = IfSome_then rest next (λ _ t. IfSome_then known checked (λ _ line.
        rw t.2.2 (rest-stopped f stopped (line t.2.0 t.2.1))));
  }

  pub checks-line : {u : Summary} {p : ℕ} {e : Option (List ℕ)} (mark : Mark) → IsCounted mark s u
      → NextChecked known k name share after kept (lines_of s + 1) (Ok mark) n o c d
      → Checks rest' known k name after behind ahead' u r o p d e
      → Checks rest known k name share behind ahead s r n p c e
  checks-line {u} {p} {e} mark counted checked later = record {
    of = IfSome_then rest next (λ _ t. IfSome-two {r = known} refl checked
        (subst (λ x. Checks x known k name after behind ahead' u r o p d e) t.1 later).of (λ _ line q.
        rw t.2.2 (rest-line (line t.2.0 t.2.1) counted q)));
  }

-- ---- what is opened

pub opens-none : (rest : Option (List ℕ)) (ahead : List ℕ) (n : ℕ) → OpensEach rest ahead n n
opens-none rest ahead n = record { of = IfSome-all rest (λ _. omega arith) }

module _ (kept rest : Option (List ℕ)) (ahead : List ℕ) (rest' : Option (List ℕ)) (ahead' : List ℕ)
    (next : NextTaken kept rest ahead rest' ahead') {m n : ℕ} (once : n ≤ m + 1) where
  pub opens-stopped : OpensEach rest ahead m n
  opens-stopped = grind (arith, common_steps, IfSome_then)

  pub opens-line : (o : ℕ) → OpensEach rest' ahead' n o → OpensEach rest ahead m o
  opens-line o later = grind (arith, common_steps, IfSome_then)
