-- Powers of two are the numbers with one bit.
use Rattle.std.proofs.lemmas.Grind.{common_steps}
use Rattle.std.proofs.Common.{◌≡◌, ℕ, zero, suc, ◌+◌, ◌*◌, ◌/◌, ◌%◌, ◌^◌, ◌<◌, ◌≤◌, max, refl, sym, ap, ◌∙◌, inl, inr}
use Rattle.std.proofs.Common.{arith, pow_pos, pow_mono}
use Rattle.std.proofs.Math.Nat.{pow-succ', mul-mod_right}
use Rattle.std.proofs.lemmas.Bool.{cases_lt, cases_order}
use Rattle.std.proofs.lemmas.Nat.{zero_from_ones, div-add-mod'}
use Rattle.std.specs.Int.Count.{ones as count_ones, ones_in, ones_step, ones_cat, count_trailing_zeros, under}
use Rattle.std.specs.Int.{IsPowerOfTwo}
use Rattle.b3.specs.Parts.{IsLeastPowerFrom}
use Rattle.b3.specs.Tree.{IsGreatestPowerBelow}

pub ones_of_zero : count_ones 0 ≡ 0
unfolding count_ones ones_in
ones_of_zero = refl

ones_of_one : count_ones 1 ≡ 1
unfolding count_ones ones_in
ones_of_one = refl

pub ones_pow : (e : ℕ) → count_ones (2 ^ e) ≡ 1
ones_pow e =
    let whole : 1 * 2 ^ e + 0 ≡ 2 ^ e = omega arith in
    let cat : count_ones (1 * 2 ^ e + 0) ≡ count_ones 1 + count_ones 0 = ones_cat e 1 0 (pow_pos e) in
    omega (arith, rw whole at cat, ones_of_zero, ones_of_one)

pub pow_from_ones : (k n : ℕ) → n < 2 ^ k → count_ones n ≡ 1 → (e : ℕ) × (n ≡ 2 ^ e)
pow_from_ones zero n h one =
    let none : n ≡ 0 = omega arith in
    absurd (omega (arith, ap count_ones none, ones_of_zero))
pow_from_ones (suc k) n h one =
    let double : 2 ^ suc k ≡ 2 * 2 ^ k = pow-succ' 2 k in
    elim (cases_lt (n % 2) 1) [
      | inl even ↦
          let half = pow_from_ones k (n / 2) (omega arith) (omega (arith, ones_step n)) in
          (suc half.0, omega (arith, half.1, pow-succ' 2 half.0))
      | inr odd ↦
          let none : n / 2 ≡ 0 = zero_from_ones (n / 2) (omega (arith, ones_step n)) in
          (0, omega arith)
    ]

-- no two powers of two are so near
pub smaller_power : (e f n : ℕ) → e < f → n ≤ 2 ^ e → 2 ^ f < 2 * n → ⊥
smaller_power e f n lt a b =
    let up : 2 ^ suc e ≤ 2 ^ f = pow_mono lt in
    let double : 2 ^ suc e ≡ 2 * 2 ^ e = pow-succ' 2 e in
    omega arith

-- the power of two between two neighbours among the powers
pub power_between : (e l n : ℕ) → n ≡ 2 ^ e → 2 ^ l ≤ n → n < 2 * 2 ^ l → 2 ^ l ≡ n
power_between e l n is from below =
    elim (cases_order e l) [
      | inl same ↦ ap (λ (k : ℕ). 2 ^ k) (sym same) ∙ sym is
      | inr (inl lt) ↦ absurd (smaller_power e l n lt (omega arith) (omega (arith, pow_pos e)))
      | inr (inr gt) ↦ absurd (smaller_power l e (2 ^ l) gt (omega arith) (omega arith))
    ]

-- what next_power_of_two answers for n is the least power of two from n on
pub least_from : (p n : ℕ) → IsPowerOfTwo p → n ≤ p → p / 2 < max 1 n → 0 < n → IsLeastPowerFrom p n
least_from p n power from near some = (power.0, power.1, from, omega arith)

-- and half of it is the greatest power of two below n
pub greatest_below : (p n : ℕ) → IsPowerOfTwo p → n ≤ p → p / 2 < max 1 n → 1 < n → IsGreatestPowerBelow (p / 2) n
greatest_below p n (zero, is) from near some = absurd (omega (arith, is))
greatest_below p n (suc e, is) from near some =
    let double : 2 ^ suc e ≡ 2 * 2 ^ e = pow-succ' 2 e in
    (e, omega (arith, is, double), omega arith, omega (arith, is, double))

-- there is one least power of two from n on
pub least_power_unique : (p q n : ℕ) → IsLeastPowerFrom p n → IsLeastPowerFrom q n → p ≡ q
least_power_unique p q n h r1 = grind (arith, common_steps, cases_order, smaller_power)

-- there is a least power of two from n on
pub least_power : (n : ℕ) → 0 < n → (p : ℕ) × IsLeastPowerFrom p n
least_power zero h = absurd (omega arith)
least_power (suc zero) h = (1, (0, refl, omega arith, omega arith))
least_power (suc (suc n)) h =
    let found = least_power (suc n) (omega arith) in
    let p : ℕ = found.0 in
    let e : ℕ = found.1.0 in
    let is : p ≡ 2 ^ e = found.1.1 in
    let from : suc n ≤ p = found.1.2 in
    let near : p < 2 * suc n = found.1.3 in
    elim (cases_lt (suc n) p) [
      | inl lt ↦ (p, (e, is, omega arith, omega arith))
      | inr ge ↦ (2 * p, (suc e, omega (arith, pow-succ' 2 e), omega arith, omega arith))
    ]

-- a multiple of a whose quotient is a multiple of b is one of their product
pub product_multiple : (n a b : ℕ) → n / a * a ≡ n → n / a % b ≡ 0 → n % (a * b) ≡ 0
product_multiple n a b outer inner =
    let start : n / a / b * b ≡ n / a = omega (arith, div-add-mod' (n / a) b, inner) in
    let moved : a * b * (n / a / b) ≡ n / a / b * b * a = omega arith in
    let whole : a * b * (n / a / b) ≡ n = moved ∙ ap (λ (k : ℕ). k * a) start ∙ outer in
    rw whole at (mul-mod_right (a * b) (n / a / b))

pub eight_multiple : (n l : ℕ) → n % 8 ≡ 0 → n / 8 % 2 ^ l ≡ 0 → n % (8 * 2 ^ l) ≡ 0
eight_multiple n l eight more = product_multiple n 8 (2 ^ l) (omega arith) more

-- a number is a multiple of each power of two up to the zeros at its end
pub trailing_multiple : (k n t : ℕ) → t ≤ count_trailing_zeros k n → n % 2 ^ t ≡ 0
unfolding count_trailing_zeros
trailing_multiple k n zero h = omega arith
trailing_multiple zero n (suc t) h = absurd (omega arith)
trailing_multiple (suc k) n (suc t) h =
    elim (cases_lt (n % 2) 1) [
      | inl even ↦
          let low : n % 2 ≡ 0 = omega arith in
          let more : count_trailing_zeros (suc k) n ≡ suc (count_trailing_zeros k (n / 2))
          = ap (λ (d : ℕ). under d (count_trailing_zeros k (n / 2))) low in
          rw (pow-succ' 2 t)
          (product_multiple n 2 (2 ^ t) (omega arith) (trailing_multiple k (n / 2) t (omega (arith, more))))
      | inr odd ↦
          let low : n % 2 ≡ 1 = omega arith in
          let none : count_trailing_zeros (suc k) n ≡ 0
          = ap (λ (d : ℕ). under d (count_trailing_zeros k (n / 2))) low in
          absurd (omega (arith, none))
    ]
