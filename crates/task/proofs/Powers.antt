-- The least power of two from a number on.
use Rattle.std.proofs.Common.{◌≡◌, ℕ, ◌+◌, ◌-◌, ◌*◌, ◌/◌, ◌%◌, ◌^◌, ◌<◌, ◌≤◌, max, nat_eq, ap, sym, subst, ◌∙◌, arith}
use Rattle.std.proofs.lemmas.Bool.Decides.{nat_tests}
use Rattle.std.proofs.lemmas.Nat.{leading_length}
use Rattle.std.specs.Prelude.{◌↔◌, IsTrue}
use Rattle.std.specs.Int.Count.{count_leading_zeros}
use Rattle.std.specs.Int.{IsPowerOfTwo}
use Rattle.b3.proofs.Powers.{least_from, least_power_unique}
use Rattle.b3.specs.Parts.{IsLeastPowerFrom}
use Rattle.task.specs.Tasks.{least_power}
use Rattle.task.specs.inside.Possible.{HasRoom}

pub least_is : (n : ℕ) → 1 ≤ n → n ≤ 2 ^ 54 → IsLeastPowerFrom (least_power n) n
unfolding least_power
least_is n low high =
    let found = leading_length 64 (n - 1) (omega arith) in
    let m : ℕ = found.0 in
    let all : count_leading_zeros 64 (n - 1) + m ≡ 64 = found.1 in
    let above : n - 1 < 2 ^ m = found.2 in
    let near : 2 ^ m ≤ 2 * (n - 1) + 1 = found.3 in
    let same : 64 - count_leading_zeros 64 (n - 1) ≡ m = omega arith in
    let is : 2 ^ (64 - count_leading_zeros 64 (n - 1)) ≡ 2 ^ m = ap (λ (k : ℕ). 2 ^ k) same in
    (m, is, omega arith, omega arith)

-- what next_power_of_two answers for n is that power
pub power_is : (p n : ℕ) → IsPowerOfTwo p → n ≤ p → p / 2 < max 1 n → 1 ≤ n → n ≤ 2 ^ 54 → p ≡ least_power n
power_is p n power from near low high =
    least_power_unique p (least_power n) n (least_from p n power from near low) (least_is n low high)

zero_test : (x : ℕ) → IsTrue (nat_eq x 0) ↔ (x ≡ 0)
zero_test x = (λ h. grind (arith, nat_tests), λ h. grind (arith, nat_tests))

-- so a multiple of the one is a multiple of the other
pub multiple_test : (first p n : ℕ) → p ≡ least_power n → IsTrue (nat_eq (first % p) 0) ↔ (first % least_power n ≡ 0)
multiple_test first p n same =
    subst (λ (q : ℕ). IsTrue (nat_eq (first % q) 0) ↔ (first % least_power n ≡ 0)) (sym same)
    (zero_test (first % least_power n))

-- a multiple of it has room for n
pub room_at : (first n : ℕ) → 1 ≤ n → n ≤ 2 ^ 54 → first % least_power n ≡ 0 → HasRoom first n
room_at first n low high multiple = (
  low,
  high,
  λ p least.
      let same : p ≡ least_power n = least_power_unique p (least_power n) n least (least_is n low high) in
      ap (λ (q : ℕ). first % q) same ∙ multiple,
)
