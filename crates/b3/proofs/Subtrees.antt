-- Pushing the next tree onto a row of subtrees is adding to a binary number: where k is a multiple
-- of 2 ^ (j + 1), the subtrees of k + 2 ^ j leaves are those of k and then the tree of the
-- last 2 ^ j.
use Rattle.std.proofs.lemmas.Grind.{common_steps}
use Rattle.std.proofs.Common.{◌≡◌, ℕ, zero, suc, ◌+◌, ◌-◌, ◌*◌, ◌^◌, ◌<◌, ◌≤◌, [], ◌∷◌, ◌++◌, refl, ap, ◌∙◌, inl, inr}
use Rattle.std.proofs.Common.{arith, add-zero, pow_pos, pow_mono, pow-add, mul-add, mul-le-mul_left}
use Rattle.std.proofs.Math.Nat.{mul-sub, pow-succ'}
use Rattle.std.proofs.lemmas.Bool.{cases_lt, lt-ltb, le-ltb}
use Rattle.b3.specs.inside.Subtrees.{subtrees}

module _ {X : Type 0} (tree : ℕ → ℕ → X) where
  pub subtrees_low : (l i k : ℕ) → k < 2 ^ l → subtrees tree (suc l) i k ≡ subtrees tree l i k
  unfolding subtrees
  subtrees_low l i k h = rw (lt-ltb k (2 ^ l) h, subtrees) refl

  pub subtrees_high : (l i k : ℕ) → 2 ^ l ≤ k
      → subtrees tree (suc l) i k ≡ tree l i ∷ subtrees tree l (i + 2 ^ l) (k - 2 ^ l)
  unfolding subtrees
  subtrees_high l i k h = rw (le-ltb k (2 ^ l) h, subtrees) refl

  pub subtrees_none : (l i : ℕ) → subtrees tree l i 0 ≡ []
  unfolding subtrees
  subtrees_none zero i = refl
  subtrees_none (suc l) i = subtrees_low l i 0 (pow_pos l) ∙ subtrees_none l i

-- a multiple of a below one of its multiples is a whole step below it
pub step_below : (a q b : ℕ) → a * q < a * b → a * q + a ≤ a * b
step_below a q b h = grind (arith, common_steps, cases_lt, mul-le-mul_left, mul-add)

-- 2 ^ l is a multiple of each smaller power
pow_multiple : (j l : ℕ) → j < l → 2 ^ l ≡ 2 ^ suc j * 2 ^ (l - suc j)
pow_multiple j l h = grind (arith, common_steps, pow-add)

module _ {X : Type 0} (tree : ℕ → ℕ → X) where
  -- where k is a multiple of 2 ^ (j + 1), the subtrees of k + 2 ^ j leaves are those of k and, at
  -- the end, the tree of the last 2 ^ j
  pub subtrees_push : (l i j k q : ℕ) → k ≡ 2 ^ suc j * q → k + 2 ^ j < 2 ^ l
      → subtrees tree l i (k + 2 ^ j) ≡ subtrees tree l i k ++ tree j (i + k) ∷ []
  subtrees_push zero i j k q e h = absurd (omega (arith, pow_pos j))
  subtrees_push (suc l) i j k q e h =
      let p : ℕ = 2 ^ l in
      let double : 2 ^ suc l ≡ 2 * p = pow-succ' 2 l in
      let double_j : 2 ^ suc j ≡ 2 * 2 ^ j = pow-succ' 2 j in
      elim (cases_lt (k + 2 ^ j) p) [
        | inl lt ↦
            let fewer = subtrees_low tree l i k (omega arith) in
            rw (subtrees_low tree l i (k + 2 ^ j) lt, fewer) (subtrees_push l i j k q e lt)
        | inr ge ↦ elim (cases_lt j l) [
          | inl jl ↦
              let whole : p ≡ 2 ^ suc j * 2 ^ (l - suc j) = pow_multiple j l jl in
              elim (cases_lt k p) [
                | inl kl ↦
                    let step : 2 ^ suc j * q + 2 ^ suc j ≤ 2 ^ suc j * 2 ^ (l - suc j)
                    = step_below (2 ^ suc j) q (2 ^ (l - suc j)) (omega arith) in
                    absurd (omega (arith, pow_pos j))
                | inr kg ↦
                    let rest : k - p ≡ 2 ^ suc j * (q - 2 ^ (l - suc j))
                    = omega (arith, mul-sub (2 ^ suc j) q (2 ^ (l - suc j))) in
                    let moved : k + 2 ^ j - p ≡ k - p + 2 ^ j = omega arith in
                    let at : i + p + (k - p) ≡ i + k = omega arith in
                    let ih : subtrees tree l (i + p) (k - p + 2 ^ j)
                    ≡ subtrees tree l (i + p) (k - p) ++ tree j (i + p + (k - p)) ∷ []
                    = subtrees_push l (i + p) j (k - p) (q - 2 ^ (l - suc j)) rest (omega arith) in
                    rw (subtrees_high tree l i (k + 2 ^ j) ge, subtrees_high tree l i k kg, moved, ih, at) refl
              ]
          | inr jg ↦
              let big : p ≤ 2 ^ j = pow_mono jg in
              let same : j ≡ l = elim (cases_lt l j) [
                | inl lj ↦
                    let bigger : 2 ^ suc l ≤ 2 ^ j = pow_mono (omega arith) in
                    absurd (omega arith)
                | inr le ↦ omega arith
              ] in
              let pj : 2 ^ j ≡ p = ap (λ (n : ℕ). 2 ^ n) same in
              let kz : k ≡ 0 = elim (cases_lt 0 q) [
                | inl qp ↦
                    let m : 2 ^ suc j * 1 ≤ 2 ^ suc j * q = mul-le-mul_left (2 ^ suc j) (omega arith) in
                    absurd (omega arith)
                | inr qz ↦
                    let z : q ≡ 0 = omega arith in
                    e ∙ ap (λ (n : ℕ). 2 ^ suc j * n) z ∙ omega arith
              ] in
              let whole : k + 2 ^ j ≡ p = omega arith in
              let none : p - p ≡ 0 = omega arith in
              let empty : subtrees tree (suc l) i 0 ≡ [] = subtrees_none tree (suc l) i in
              let high = subtrees_high tree l i p (omega arith) in
              rw (whole, kz, empty, high, none, subtrees_none tree l (i + p), same, add-zero) refl
        ]
      ]

-- two rows with the same trees among their first n leaves have the same subtrees of them
pub subtrees_same : {X : Type 0} (tree other : ℕ → ℕ → X) (n l i k : ℕ)
    → ((j a : ℕ) → a + 2 ^ j ≤ n → tree j a ≡ other j a) → i + k ≤ n → subtrees tree l i k ≡ subtrees other l i k
unfolding subtrees
subtrees_same tree other n zero i k same h = refl
subtrees_same tree other n (suc l) i k same h =
    elim (cases_lt k (2 ^ l)) [
      | inl lt ↦ rw (subtrees_low tree l i k lt, subtrees_low other l i k lt) (subtrees_same tree other n l i k same h)
      | inr ge ↦
          let head : tree l i ≡ other l i = same l i (omega arith) in
          let rest : subtrees tree l (i + 2 ^ l) (k - 2 ^ l) ≡ subtrees other l (i + 2 ^ l) (k - 2 ^ l)
          = subtrees_same tree other n l (i + 2 ^ l) (k - 2 ^ l) same (omega arith) in
          rw (subtrees_high tree l i k ge, subtrees_high other l i k ge, head, rest) refl
    ]
