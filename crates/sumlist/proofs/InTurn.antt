-- The outcomes of a list that its shares have in turn are outcomes of the whole list.
use Rattle.sumlist.proofs.Common.{common_steps}
use Rattle.std.proofs.Common.{◌≡◌, ◌∙◌, ◌==◌, ℕ, ◌≤◌, suc, zero, List, [], ◌∷◌, ap, sym, refl, subst, arith, inl, inr}
use Rattle.std.proofs.Common.{◌⊎◌, if◌then◌else◌}
use Rattle.std.proofs.lemmas.Bool.Decides.{nat_tests}
use Rattle.sumlist.specs.Line.{IsSkipped}
use Rattle.sumlist.specs.Report.{AllAllowed, Allowed, Files, Meaning, Outcome, skipped}
use Rattle.sumlist.specs.Shared.{shared}
use Rattle.sumlist.proofs.SharedLines.{entry_apart, own_at, passed_at, skipped_at, skipped_one}

-- ---- the turns of the shares

-- of n + 1 shares, the one that comes after this one, and the one before it
abbrev pub after : ℕ → ℕ → ℕ
after n j = if j == n then 0 else suc j

abbrev pub before : ℕ → ℕ → ℕ
before n zero = n
before n (suc k) = k

pub after-within : (n j : ℕ) → j ≤ n → after n j ≤ n
after-within n j within = grind (arith, nat_tests)

pub before-within : (n k : ℕ) → k ≤ n → before n k ≤ n
before-within n k within = grind (arith, common_steps)

pub after-before : (n k : ℕ) → k ≤ n → after n (before n k) ≡ k
after-before n k within = grind (arith, common_steps, nat_tests)

-- ---- one outcome before others

-- before what a share makes of the others
abbrev pub put : Outcome → List Outcome × ℕ → List Outcome × ℕ
put o r = (o ∷ r.0, r.1)

-- what a share makes of it that passes over k entries before its next
abbrev pub seen : ℕ → ℕ → Outcome → Outcome
seen n zero o = o
seen n (suc k) o = skipped

pub skipped_before : (n k : ℕ) (os : List Outcome) → shared n k (skipped ∷ os) ≡ put skipped (shared n k os)
skipped_before n k os = skipped_at n k os

pub other_before : (n k : ℕ) (o : Outcome) (os : List Outcome) → (o ≡ skipped → ⊥)
    → shared n k (o ∷ os) ≡ put (seen n k o) (shared n (before n k) os)
other_before n k o os apart = grind (arith, common_steps, own_at, passed_at)

pub is_skipped : (o : Outcome) → (o ≡ skipped) ⊎ (o ≡ skipped → ⊥)
is_skipped o = grind (arith, common_steps)

-- ---- one run for all shares

-- all outcomes but the first
abbrev behind : List Outcome → List Outcome
behind [] = []
behind (o ∷ os) = os

module _ (files : Files) (m : Meaning) (n : ℕ) where
  abbrev pub Each : List (List ℕ) → (ℕ → List Outcome) → Type 0
  Each lines os = (k : ℕ) → k ≤ n → AllAllowed files m lines (os k)

  -- outcomes of the whole list, of which each share makes what it makes of its own
  pub record Merged (lines : List (List ℕ)) (os : ℕ → List Outcome) : Type 0 where
    pub whole : List Outcome
    pub allowed : AllAllowed files m lines whole
    pub same : (k : ℕ) → k ≤ n → shared n k (os k) ≡ shared n k whole

  none : (k : ℕ) (os : List Outcome) → AllAllowed files m [] os → shared n k os ≡ ([], k)
  none k os allowed = grind (arith, common_steps)

  module _ (line : List ℕ) (lines : List (List ℕ)) where
    -- the outcome of a line before others
    pub record First (os : List Outcome) : Type 0 where
      pub first : Outcome
      pub allowed : Allowed files m line first
      pub is : os ≡ first ∷ behind os
      pub rest : AllAllowed files m lines (behind os)

    first_of : (os : List Outcome) → AllAllowed files m (line ∷ lines) os → First os
    first_of os allowed = grind (arith)

    -- the line is no entry, and the same share is next
    pass : (os : ℕ → List Outcome) → Each (line ∷ lines) os → IsSkipped line
        → Merged lines (λ k. behind (os k)) → Merged (line ∷ lines) os
    pass os each is r = record {
      whole = skipped ∷ r.whole;
      allowed = (is, r.allowed);
      same = λ k within.
          let f = first_of (os k) (each k within) in
          ap (shared n k) (f.is ∙ ap (λ o. o ∷ behind (os k)) (skipped_one files m line f.first f.allowed is))
          ∙ skipped_before n k (behind (os k)) ∙ ap (put skipped) (r.same k within)
          ∙ sym (skipped_before n k r.whole);
    }

    -- the outcome is that of the share whose turn it is, and the one after it is next
    take_turn : (os : ℕ → List Outcome) → Each (line ∷ lines) os → (IsSkipped line → ⊥)
        → Merged lines (λ j. behind (os (after n j))) → Merged (line ∷ lines) os
    take_turn os each entry r = record {
      whole = own.first ∷ r.whole;
      allowed = (own.allowed, r.allowed);
      same = λ k within.
          let f = first_of (os k) (each k within) in
          ap (shared n k) f.is
          ∙ other_before n k f.first (behind (os k)) (entry_apart files m line f.first f.allowed entry)
          ∙ turned k within f
          ∙ sym (other_before n k own.first r.whole (entry_apart files m line own.first own.allowed entry));
    }
      where
        own : First (os 0)
        own = first_of (os 0) (each 0 (omega arith))

        later : (k : ℕ) → k ≤ n → shared n (before n k) (behind (os k)) ≡ shared n (before n k) r.whole
        later k within = subst (λ j. shared n (before n k) (behind (os j)) ≡ shared n (before n k) r.whole)
            (after-before n k within) (r.same (before n k) (before-within n k within))

        turned : (k : ℕ) → k ≤ n → (f : First (os k))
            → put (seen n k f.first) (shared n (before n k) (behind (os k)))
            ≡ put (seen n k own.first) (shared n (before n k) r.whole)
        turned zero within f =
            let mine = own.is in
            let one : f.first ≡ own.first = cc in
            ap (λ o. put o (shared n n (behind (os 0)))) one ∙ ap (put own.first) (later 0 within)
        turned (suc k) within f = ap (put skipped) (later (suc k) within)

  pub merged : (lines : List (List ℕ)) (os : ℕ → List Outcome) → Each lines os → Merged lines os
  merged [] os each = record { whole = []; allowed = tt; same = λ k within. none k (os k) (each k within) }
  merged (line ∷ lines) os each =
      let own = first_of line lines (os 0) (each 0 (omega arith)) in
      elim (is_skipped own.first) [
        | inl is ↦ pass line lines os each (subst (Allowed files m line) is own.allowed)
            (merged lines (λ k. behind (os k)) (λ k within. (first_of line lines (os k) (each k within)).rest))
        | inr apart ↦ take_turn line lines os each
            (λ is. apart (skipped_one files m line own.first own.allowed is))
            (merged lines (λ j. behind (os (after n j)))
            (λ j within. (first_of line lines (os (after n j)) (each (after n j) (after-within n j within))).rest))
      ]

-- ---- the turns after some outcomes

-- no two shares pass over as many entries before their next, and for each number up to n there is a share that does
pub record Moves (n : ℕ) (os : List Outcome) : Type 0 where
  pub back : ℕ → ℕ
  pub back_within : (j : ℕ) → j ≤ n → back j ≤ n
  pub within : (k : ℕ) → k ≤ n → (shared n k os).1 ≤ n
  pub there : (j : ℕ) → j ≤ n → (shared n (back j) os).1 ≡ j
  pub again : (k : ℕ) → k ≤ n → back (shared n k os).1 ≡ k

pub before-after : (n j : ℕ) → j ≤ n → before n (after n j) ≡ j
before-after n j within = grind (arith, common_steps, nat_tests)

left_skipped : (n k : ℕ) (os : List Outcome) → (shared n k (skipped ∷ os)).1 ≡ (shared n k os).1
left_skipped n k os = ap (λ (r : List Outcome × ℕ). r.1) (skipped_before n k os)

left_other : (n k : ℕ) (o : Outcome) (os : List Outcome) → (o ≡ skipped → ⊥)
    → (shared n k (o ∷ os)).1 ≡ (shared n (before n k) os).1
left_other n k o os apart = ap (λ (r : List Outcome × ℕ). r.1) (other_before n k o os apart)

moves_skipped : (n : ℕ) (os : List Outcome) → Moves n os → Moves n (skipped ∷ os)
moves_skipped n os r = grind (arith, common_steps, left_skipped)

moves_other : (n : ℕ) (o : Outcome) (os : List Outcome) → (o ≡ skipped → ⊥) → Moves n os → Moves n (o ∷ os)
moves_other n o os apart r = record {
  back = λ j. after n (r.back j);
  back_within = λ j within. after-within n (r.back j) (r.back_within j within);
  within = λ k within. subst (λ w. w ≤ n) (sym (left_other n k o os apart))
      (r.within (before n k) (before-within n k within));
  there = λ j within. left_other n (after n (r.back j)) o os apart
      ∙ ap (λ k. (shared n k os).1) (before-after n (r.back j) (r.back_within j within)) ∙ r.there j within;
  again = λ k within. ap (λ w. after n (r.back w)) (left_other n k o os apart)
      ∙ ap (after n) (r.again (before n k) (before-within n k within)) ∙ after-before n k within;
}

pub moves : (n : ℕ) (os : List Outcome) → Moves n os
moves n [] = record {
  back = λ j. j;
  back_within = λ j within. within;
  within = λ k within. within;
  there = λ j within. refl;
  again = λ k within. refl;
}
moves n (o ∷ os) = elim (is_skipped o) [
  | inl is ↦ subst (λ p. Moves n (p ∷ os)) (sym is) (moves_skipped n os (moves n os))
  | inr apart ↦ moves_other n o os apart (moves n os)
]

-- a share without others has all
pub all_own : (os : List Outcome) → shared 0 0 os ≡ (os, 0)
all_own [] = refl
all_own (o ∷ os) = elim (is_skipped o) [
  | inl is ↦ subst (λ p. shared 0 0 (p ∷ os) ≡ (p ∷ os, 0)) (sym is)
      (skipped_before 0 0 os ∙ ap (put skipped) (all_own os))
  | inr apart ↦ other_before 0 0 o os apart ∙ ap (put o) (all_own os)
]
