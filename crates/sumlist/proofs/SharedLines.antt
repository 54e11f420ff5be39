-- What a share makes of the lines of a list, one by one.
use Rattle.hashes.specs.declared.share.Share.{Share}
use Rattle.sumlist.proofs.Common.{◌≡◌, ℕ, List, [], ◌∷◌, Files, Meaning, Outcome, Allowed, Mark, Option}
use Rattle.sumlist.proofs.Common.{LineChecked, Result, Ok, Appends-nil, arith, false}
use Rattle.sumlist.proofs.Common.{refl, skipped, true, unreadable_count, common_steps}
use Rattle.std.specs.Prelude.{suc, zero}
use Rattle.sumlist.proofs.Deciding.{settled, unreadable-cons}
use Rattle.sumlist.proofs.MeaningCases.{foreign_unskipped, not_skipped}
use Rattle.sumlist.specs.Line.{IsSkipped}
use Rattle.sumlist.specs.Shared.{shared}
use Rattle.sumlist.specs.declared.checking.CheckFault.{CheckFault}
use Rattle.sumlist.specs.declared.summary.Mark.TheVariants.{Skipped}
use Rattle.sumlist.specs.inside.Stepped.{LineShared, Passes, Shares}

-- ---- one outcome before others

pub skipped_at : (n k : ℕ) (os : List Outcome) → let rest = shared n k os in
    shared n k (skipped ∷ os) ≡ (skipped ∷ rest.0, rest.1)
skipped_at n k os = refl

pub own_at : (n : ℕ) (o : Outcome) (os : List Outcome) → (o ≡ skipped → ⊥) → let rest = shared n n os in
    shared n zero (o ∷ os) ≡ (o ∷ rest.0, rest.1)
own_at n o os apart = grind (arith, common_steps)

pub passed_at : (n k : ℕ) (o : Outcome) (os : List Outcome) → (o ≡ skipped → ⊥) → let rest = shared n k os in
    shared n (suc k) (o ∷ os) ≡ (skipped ∷ rest.0, rest.1)
passed_at n k o os apart = grind (arith, common_steps)

-- ---- none of them is unreadable

unread-more : (o : Outcome) (os rest : List Outcome) → unreadable_count (o ∷ os) ≡ 0 → unreadable_count rest ≡ 0
    → unreadable_count (o ∷ rest) ≡ 0
unread-more o os rest none light = omega (arith, unreadable-cons o os, unreadable-cons o rest, none, light)

unread-rest : (o : Outcome) (os : List Outcome) → unreadable_count (o ∷ os) ≡ 0 → unreadable_count os ≡ 0
unread-rest o os none = omega (arith, unreadable-cons o os, none)

unread-skipped : (rest : List Outcome) → unreadable_count rest ≡ 0 → unreadable_count (skipped ∷ rest) ≡ 0
unread-skipped rest light = omega (arith, unreadable-cons skipped rest, light)

pub shared-settled : (n k : ℕ) (os : List Outcome) → unreadable_count os ≡ 0 → unreadable_count (shared n k os).0 ≡ 0
shared-settled n k [] none = none
shared-settled n k (skipped ∷ os) none =
    unread-skipped (shared n k os).0 (shared-settled n k os (unread-rest skipped os none))
shared-settled n zero (o ∷ os) none =
    unread-more o os (shared n n os).0 none (shared-settled n n os (unread-rest o os none))
shared-settled n (suc k) (o ∷ os) none =
    unread-skipped (shared n k os).0 (shared-settled n k os (unread-rest o os none))

-- ---- one line

module _ (files : Files) (m : Meaning) (line : List ℕ) where
  -- the outcome of a line that is not skipped is another
  pub entry_apart : (o : Outcome) → Allowed files m line o → (IsSkipped line → ⊥) → o ≡ skipped → ⊥
  entry_apart o allowed entry is = grind (arith, common_steps)

  -- and that of one that is skipped is that
  pub skipped_one : (o : Outcome) → Allowed files m line o → IsSkipped line → o ≡ skipped
  skipped_one o allowed is = grind (arith, common_steps, foreign_unskipped, not_skipped)

  -- a line that is checked
  pub shares-own : (share behind : Share) (o : Outcome) → Allowed files m line o → Passes line share behind false
      → Shares share behind o o
  shares-own share behind o allowed h = grind (arith, common_steps, skipped_one, skipped_at, own_at, entry_apart)

  -- one that is passed over
  pub shares-passed : (share behind : Share) (o : Outcome) → Allowed files m line o → Passes line share behind true
      → Shares share behind o skipped
  shares-passed share behind o allowed p = grind (arith, common_steps, passed_at, entry_apart)

  -- what was done of a line that is skipped
  pub line-skipped : (name : Option (List ℕ)) (number : ℕ) (share : Share) (count : ℕ) (old : Option (List ℕ))
      → IsSkipped line
      → (let r : Result Mark CheckFault = Ok Skipped in
      LineShared files m name share share line number r count count old old)
  line-skipped name number share count old is = grind (arith, common_steps, shares-own, Appends-nil)

  -- of one that is passed over
  pub line-passed : (name : Option (List ℕ)) (number : ℕ) (share behind : Share) (count : ℕ) (old : Option (List ℕ))
      → Passes line share behind true
      → (let r : Result Mark CheckFault = Ok Skipped in
      LineShared files m name share behind line number r count count old old)
  line-passed name number share behind count old passes =
      let d = settled files m line in
      (d.0, skipped, d.1, shares-passed share behind d.0 d.1 passes, omega arith, (refl, Appends-nil old))

  -- and of one that is checked
  pub line-own : (name : Option (List ℕ)) (number : ℕ) (share behind : Share) (r : Result Mark CheckFault)
      (count_old count_new : ℕ) (old new : Option (List ℕ)) → Passes line share behind false
      → LineChecked files m name line number r count_old count_new old new
      → LineShared files m name share behind line number r count_old count_new old new
  line-own name number share behind r count_old count_new old new passes l =
      (l.0, l.0, l.1.allowed, shares-own share behind l.0 l.1.allowed passes, l.1.counted, l.2)
