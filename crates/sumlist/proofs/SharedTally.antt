-- A list is clean exactly if each share of it is.
use Rattle.sumlist.proofs.Common.{common_steps}
use Rattle.std.proofs.Common.{◌≡◌, ◌∙◌, ◌==◌, ◌&&◌, ℕ, ◌+◌, ◌≤◌, List, [], ◌∷◌, ap, sym, refl, subst, arith, inl, inr}
use Rattle.std.proofs.Common.{max, Bool, true, false, if◌then◌else◌}
use Rattle.std.proofs.lemmas.Bool.Decides.{nat_tests}
use Rattle.std.specs.Prelude.{fold}
use Rattle.sumlist.specs.Report.{Outcome, no_lines, skipped, summary_of, told, with_line}
use Rattle.sumlist.specs.Shared.{shared}
use Rattle.sumlist.specs.Tally.{is_clean}
use Rattle.sumlist.specs.declared.summary.Summary.{Summary}
use Rattle.sumlist.specs.declared.verdict.Verdict.TheVariants.{Matches}
use Rattle.sumlist.proofs.InTurn.{after, after-within, before, before-after, is_skipped, other_before, seen}
use Rattle.sumlist.proofs.InTurn.{skipped_before}

-- ---- how bad outcomes are

-- one if it is not OK or skipped, else none
abbrev pub bad_in : Outcome → ℕ
bad_in skipped = 0
bad_in (told name Matches) = 0
bad_in o = 1

abbrev pub bad : List Outcome → ℕ
bad os = if is_clean (summary_of os) then 0 else 1

-- how many lines are neither
abbrev faults : Summary → ℕ
faults s = s.failed + s.missing + s.unreadable + s.too_long + s.malformed

none_of : (s a : ℕ) (b : Bool) → b ≡ (s == 0) → (b && a == 0) ≡ (s + a == 0)
none_of s a b is = grind (arith, nat_tests)

clean_faults : (s : Summary) → is_clean s ≡ (faults s == 0)
clean_faults s = grind (arith, common_steps, none_of)

faults_line : (s : Summary) (o : Outcome) → faults (with_line s o) ≡ faults s + bad_in o
faults_line s o = grind arith

faults_from : (os : List Outcome) (s : Summary) → faults (fold with_line s os) ≡ faults s + faults (summary_of os)
unfolding summary_of
faults_from [] s = omega arith
faults_from (o ∷ os) s = omega (
  arith,
  faults_from os (with_line s o),
  faults_line s o,
  faults_from os (with_line no_lines o),
  faults_line no_lines o,
)

faults_cons : (o : Outcome) (os : List Outcome)
    → faults (summary_of (o ∷ os)) ≡ bad_in o + faults (summary_of os)
unfolding summary_of
faults_cons o os = omega (arith, faults_from os (with_line no_lines o), faults_line no_lines o)

bad_least : (o : Outcome) → bad_in o ≤ 1
bad_least o = grind arith

together : (o f : ℕ) → o ≤ 1 → (if o + f == 0 then 0 else 1) ≡ max o (if f == 0 then 0 else 1)
together o f least = grind (arith, nat_tests)

bad_cons : (o : Outcome) (os : List Outcome) → bad (o ∷ os) ≡ max (bad_in o) (bad os)
bad_cons o os = grind (arith, common_steps, clean_faults, faults_cons, together, bad_least)

bad_skipped : (os : List Outcome) → bad (skipped ∷ os) ≡ bad os
bad_skipped os = omega (arith, bad_cons skipped os)

pub bad_most : (os : List Outcome) → bad os ≤ 1
bad_most os = grind (arith, common_steps)

-- ---- those of a share

-- how bad they are
abbrev pub bad_own : ℕ → ℕ → List Outcome → ℕ
bad_own n k os = bad (shared n k os).0

own_skipped : (n k : ℕ) (os : List Outcome) → bad_own n k (skipped ∷ os) ≡ bad_own n k os
own_skipped n k os = grind (arith, common_steps, skipped_before, bad_skipped)

own_other : (n k : ℕ) (o : Outcome) (os : List Outcome) → (o ≡ skipped → ⊥)
    → bad_own n k (o ∷ os) ≡ max (bad_in (seen n k o)) (bad_own n (before n k) os)
own_other n k o os apart = grind (arith, other_before, bad_cons, seen, before)

seen_least : (n k : ℕ) (o : Outcome) → bad_in (seen n k o) ≤ bad_in o
seen_least n k o = grind (arith, common_steps)

-- a share is no worse than all
pub bad_below : (n k : ℕ) (os : List Outcome) → bad_own n k os ≤ bad os
bad_below n k [] = omega arith
bad_below n k (o ∷ os) = elim (is_skipped o) [
  | inl is ↦ subst (λ p. bad_own n k (p ∷ os) ≤ bad (p ∷ os)) (sym is)
      (omega (arith, own_skipped n k os, bad_below n k os, bad_skipped os))
  | inr apart ↦
      omega (arith, own_other n k o os apart, bad_below n (before n k) os, bad_cons o os, seen_least n k o)
]

-- and one is as bad
pub record Worst (n : ℕ) (os : List Outcome) : Type 0 where
  pub k : ℕ
  pub within : k ≤ n
  pub same : bad_own n k os ≡ bad os

worst_other : (n : ℕ) (o : Outcome) (os : List Outcome) → (o ≡ skipped → ⊥) → Worst n os → Worst n (o ∷ os)
worst_other n o os apart r = on (bad_in o == 1) refl
  where
    least : bad_in o ≤ 1
    least = bad_least o

    on : (b : Bool) → (bad_in o == 1) ≡ b → Worst n (o ∷ os)
    on true is =
        let one : bad_in o ≡ 1 = grind (arith, nat_tests) in
        record {
          k = 0;
          within = omega arith;
          same = omega (
            arith,
            own_other n 0 o os apart,
            bad_cons o os,
            one,
            bad_most os,
            bad_most (shared n n os).0,
          );
        }
    on false is =
        let none : bad_in o ≡ 0 = grind (arith, nat_tests) in
        let k = after n r.k in
        let turn : bad_own n (before n k) os ≡ bad_own n r.k os
        = ap (λ j. bad_own n j os) (before-after n r.k r.within) in
        let same = r.same in
        record {
          k = k;
          within = after-within n r.k r.within;
          same = omega (
            arith,
            own_other n k o os apart,
            bad_cons o os,
            none,
            seen_least n k o,
            turn,
            same,
          );
        }

pub worst : (n : ℕ) (os : List Outcome) → Worst n os
worst n [] = record { k = 0; within = omega arith; same = refl }
worst n (o ∷ os) = elim (is_skipped o) [
  | inl is ↦ subst (λ p. Worst n (p ∷ os)) (sym is) (let r = worst n os in record {
    k = r.k;
    within = r.within;
    same = own_skipped n r.k os ∙ r.same ∙ sym (bad_skipped os);
  })
  | inr apart ↦ worst_other n o os apart (worst n os)
]
