-- Parts in a row: all but the last are whole subtrees, so the last one stands where the one-bits of
-- the number of the chunks before it end, and the tree is folded from the subtrees and the last part.
use Rattle.std.proofs.lemmas.Grind.{common_steps}
use Rattle.std.proofs.Common.{◌≡◌, ℕ, zero, suc, ◌+◌, ◌-◌, ◌*◌, ◌/◌, ◌%◌, ◌^◌, ◌<◌, ◌≤◌, List, ◌++◌, length, take}
use Rattle.std.proofs.Common.{drop, refl, sym, ap, ◌∙◌, inl, inr, arith, add-zero, pow_pos, pow_mono, pow-add}
use Rattle.std.proofs.Common.{mul-le-mul_left, length-append, length-drop}
use Rattle.std.proofs.Math.Nat.{pow-succ', mul-sub, mul-mod_right, mul_assoc, mul_comm, div-add-mod}
use Rattle.std.proofs.lemmas.Bool.{cases_lt}
use Rattle.std.proofs.lemmas.List.{drop-drop, drop_at, take_at}
use Rattle.b3.specs.inside.Subtrees.{subtrees}
use Rattle.b3.specs.Node.{cv}
use Rattle.b3.specs.Tree.{parent, tree, chunk_count, IsGreatestPowerBelow}
use Rattle.b3.specs.Parts.{IsPlacedAt}
use Rattle.b3.specs.inside.Hasher.{Holds}
use Rattle.b3.specs.inside.Runs.{run_cv}
use Rattle.b3.specs.declared.hasher.Blake3.{Blake3}
use Rattle.b3.proofs.Subtrees.{subtrees_none, subtrees_low, subtrees_high, step_below}
use Rattle.b3.proofs.Folding.{root_over, tree_split}
use Rattle.b3.proofs.Holding.{run_start}
use Rattle.b3.proofs.Powers.{least_power}

-- two neighbours: the left one has 2 ^ e full chunks, and the right one at most so many
pub tree_join : (key : List ℕ) (flags c e : ℕ) (m1 m2 : List ℕ) → length m1 ≡ 1024 * 2 ^ e → 0 < length m2
    → length m2 ≤ 1024 * 2 ^ e
    → parent key flags (cv (tree key flags c m1)) (cv (tree key flags (c + 2 ^ e) m2)) ≡ tree key flags c (m1 ++ m2)
tree_join key flags c e m1 m2 full some fits =
    let p : ℕ = 2 ^ e in
    let total : length (m1 ++ m2) ≡ length m1 + length m2 = length-append m1 m2 in
    let cut : IsGreatestPowerBelow p (chunk_count (m1 ++ m2)) = (e, refl, omega arith, omega arith) in
    let left : take (1024 * p) (m1 ++ m2) ≡ m1 = take_at m1 m2 (1024 * p) full in
    let right : drop (1024 * p) (m1 ++ m2) ≡ m2 = drop_at m1 m2 (1024 * p) full in
    sym (tree_split key flags c p (m1 ++ m2) cut ∙ rw (left, right) refl)

-- an exponent is less where its power is
pub less_power : (e l : ℕ) → 2 ^ e < 2 ^ l → e < l
less_power e l h = grind (arith, common_steps, cases_lt, pow_mono)

-- a power of two is a multiple of the smaller ones
pub power_multiple : (e l : ℕ) → e ≤ l → 2 ^ l ≡ 2 ^ e * 2 ^ (l - e)
power_multiple e l h = grind (arith, common_steps, pow-add)

mul_up : (a q : ℕ) → 0 < q → a * 1 ≤ a * q
mul_up a q h = mul-le-mul_left a (omega arith)

module _ (key : List ℕ) (flags c : ℕ) (m : List ℕ) where
  -- the tree from chunk i on is folded from the subtrees of k chunks and the tree of the n chunks
  -- after them, where k is a multiple of a power of two that is at least n
  pub fold_part : (e q l i k n : ℕ) → k ≡ 2 ^ e * q → n ≤ 2 ^ e → 0 < n
      → chunk_count (drop (1024 * i) m) ≡ k + n → k + n ≤ 2 ^ l
      → tree key flags (c + i) (drop (1024 * i) m)
      ≡ root_over key flags (subtrees (run_cv key flags c m) l i k)
      (tree key flags (c + (i + k)) (drop (1024 * (i + k)) m))
  unfolding root_over subtrees run_cv
  fold_part e q zero i k n is few some count fits =
      let z : k ≡ 0 = omega arith in
      rw (z, add-zero) refl
  fold_part e q (suc l) i k n is few some count fits =
      let p : ℕ = 2 ^ l in
      let double : 2 ^ suc l ≡ 2 * p = pow-succ' 2 l in
      let rest : List ℕ = drop (1024 * i) m in
      let values : ℕ → ℕ → List ℕ = run_cv key flags c m in
      let last = tree key flags (c + (i + k)) (drop (1024 * (i + k)) m) in
      elim (cases_lt 0 q) [
        | inr none ↦
            let qz : q ≡ 0 = omega arith in
            let z : k ≡ 0 = is ∙ ap (λ (x : ℕ). 2 ^ e * x) qz ∙ omega arith in
            rw (z, subtrees_none values (suc l) i, add-zero) refl
        | inl qp ↦
            let big : 2 ^ e * 1 ≤ 2 ^ e * q = mul_up (2 ^ e) q qp in
            elim (cases_lt k p) [
              | inl lt ↦
                  let el : e < l = less_power e l (omega arith) in
                  let whole : p ≡ 2 ^ e * 2 ^ (l - e) = power_multiple e l (omega arith) in
                  let step : 2 ^ e * q + 2 ^ e ≤ 2 ^ e * 2 ^ (l - e)
                  = step_below (2 ^ e) q (2 ^ (l - e)) (omega arith) in
                  fold_part e q l i k n is few some count (omega arith)
                  ∙ ap (λ (xs : List (List ℕ)). root_over key flags xs last)
                  (sym (subtrees_low values l i k lt))
              | inr ge ↦
                  let el : e < suc l = less_power e (suc l) (omega arith) in
                  let whole : p ≡ 2 ^ e * 2 ^ (l - e) = power_multiple e l (omega arith) in
                  let less : k - p ≡ 2 ^ e * (q - 2 ^ (l - e)) = omega (arith, mul-sub (2 ^ e) q (2 ^ (l - e))) in
                  let at : 1024 * i + 1024 * p ≡ 1024 * (i + p) = omega arith in
                  let moved : drop (1024 * p) rest ≡ drop (1024 * (i + p)) m
                  = drop-drop (1024 * p) (1024 * i) m ∙ ap (λ (x : ℕ). drop x m) at in
                  let counted : chunk_count (drop (1024 * (i + p)) m) ≡ k - p + n
                  = omega (arith, ap length moved, length-drop (1024 * p) rest) in
                  let ih = fold_part e (q - 2 ^ (l - e)) l (i + p) (k - p) n less few some counted (omega arith) in
                  let place : i + p + (k - p) ≡ i + k = omega arith in
                  let number : c + i + p ≡ c + (i + p) = omega arith in
                  let right : tree key flags (c + i + p) (drop (1024 * p) rest)
                  ≡ root_over key flags (subtrees values l (i + p) (k - p))
                  (tree key flags (c + (i + k)) (drop (1024 * (i + k)) m))
                  = rw (moved, number) (rw place at ih) in
                  let cut : IsGreatestPowerBelow p (chunk_count rest) = (l, refl, omega arith, omega arith) in
                  tree_split key flags (c + i) p rest cut
                  ∙ rw right refl
                  ∙ ap (λ (xs : List (List ℕ)). root_over key flags xs last)
                  (sym (subtrees_high values l i k ge))
            ]
      ]

-- the bytes fit in a power of two of chunks that divides their place
pub place_power : (c n : ℕ) → IsPlacedAt c n
    → (e : ℕ) × ((q : ℕ) × (c ≡ 2 ^ e * q) × ((n - 1) / 1024 + 1 ≤ 2 ^ e))
place_power c n placed =
    let found = least_power ((n - 1) / 1024 + 1) (omega arith) in
    let p : ℕ = found.0 in
    let e : ℕ = found.1.0 in
    let is : p ≡ 2 ^ e = found.1.1 in
    let from : (n - 1) / 1024 + 1 ≤ p = found.1.2 in
    let even : c % p ≡ 0 = placed.2 p found.1 in
    let whole : c ≡ p * (c / p) = omega (arith, div-add-mod c p) in
    (e, (c / p, whole ∙ ap (λ (x : ℕ). x * (c / p)) is, omega arith))

-- a whole part stands at a multiple of its length
pub whole_place : (c n j : ℕ) → n ≡ 1024 * 2 ^ j → IsPlacedAt c n → c % 2 ^ j ≡ 0
whole_place c n j whole placed = grind (arith, common_steps, pow_pos)

-- bytes from a multiple of a power of two on, which are at most so many chunks, can be a part
pub placed_within : (e c n : ℕ) → c % 2 ^ e ≡ 0 → (n ≡ 0 → c ≡ 0) → n ≤ 1024 * 2 ^ e → 1024 * c + n ≤ 2 ^ 64 - 1
    → IsPlacedAt c n
placed_within e c n aligned none few limit = (
  none,
  limit,
  λ p least.
      let f : ℕ = least.0 in
      let power : p ≡ 2 ^ f = least.1 in
      let near : p < 2 * ((n - 1) / 1024 + 1) = least.3 in
      let double : 2 ^ suc e ≡ 2 * 2 ^ e = pow-succ' 2 e in
      let below : f < suc e = less_power f (suc e) (omega (arith, pow_pos e)) in
      let up : 2 ^ e ≡ 2 ^ f * 2 ^ (e - f) = power_multiple f e (omega arith) in
      let start : c / 2 ^ e * 2 ^ e ≡ c = run_start (2 ^ e) c aligned in
      let is : c ≡ p * (2 ^ (e - f) * (c / 2 ^ e))
      = sym start ∙ mul_comm (c / 2 ^ e) (2 ^ e)
      ∙ ap (λ (x : ℕ). x * (c / 2 ^ e)) (up ∙ ap (λ (x : ℕ). x * 2 ^ (e - f)) (sym power))
      ∙ mul_assoc p (2 ^ (e - f)) (c / 2 ^ e) in
      rw is (mul-mod_right p (2 ^ (e - f) * (c / 2 ^ e))),
)

-- the open chunk of a hasher stands where a part can, and is a tree of its own
pub Holds_last : (s : Blake3) (m : List ℕ) → Holds s m → 1024 * s.stack.closed + s.chunk.len ≤ 2 ^ 64 - 1
    → IsPlacedAt s.stack.closed (length m - 1024 * s.stack.closed)
    × (chunk_count (drop (1024 * s.stack.closed) m) ≡ 1)
Holds_last s m held fits = grind (arith, common_steps, length-drop, placed_within)

-- the chaining values and the last part are the tree
pub row_root : (key : List ℕ) (flags f : ℕ) (m : List ℕ) (items : List (List ℕ)) (c n : ℕ)
    → IsPlacedAt c n → 0 < n → length m ≡ 1024 * c + n → items ≡ subtrees (run_cv key flags f m) 54 0 c
    → root_over key flags items (tree key flags (f + c) (drop (1024 * c) m)) ≡ tree key flags f m
row_root key flags f m items c n placed some len stack =
    let place = place_power c n placed in
    let e : ℕ = place.0 in
    let q : ℕ = place.1.0 in
    let is : c ≡ 2 ^ e * q = place.1.1 in
    let few : (n - 1) / 1024 + 1 ≤ 2 ^ e = place.1.2 in
    let limit : 1024 * c + n ≤ 2 ^ 64 - 1 = placed.1 in
    let here : 0 + c ≡ c = omega arith in
    let none : f + 0 ≡ f = omega arith in
    let fold = fold_part key flags f m e q 54 0 c ((n - 1) / 1024 + 1) is few (omega arith) (omega arith)
    (omega arith) in
    let whole = rw (here, none) at fold in
    rw stack (sym whole)

-- what is placed in a row that is a part is placed when chunks are counted from the row's first
pub rest_placed : (f d n : ℕ) → 0 < d → IsPlacedAt f (1024 * d + n) → IsPlacedAt (f + d) n → IsPlacedAt d n
rest_placed f d n some whole part =
    let place = place_power f (1024 * d + n) whole in
    let e2 : ℕ = place.0 in
    let q : ℕ = place.1.0 in
    let is : f ≡ 2 ^ e2 * q = place.1.1 in
    let few : (1024 * d + n - 1) / 1024 + 1 ≤ 2 ^ e2 = place.1.2 in
    let limit : 1024 * (f + d) + n ≤ 2 ^ 64 - 1 = part.1 in
    let none : n ≡ 0 → f + d ≡ 0 = part.0 in (
      λ z. absurd (omega (arith, none z)),
      omega arith,
      λ p least.
          let e : ℕ = least.0 in
          let power : p ≡ 2 ^ e = least.1 in
          let near : p < 2 * ((n - 1) / 1024 + 1) = least.3 in
          let double : 2 ^ suc e2 ≡ 2 * 2 ^ e2 = pow-succ' 2 e2 in
          let el : e < suc e2 = less_power e (suc e2) (omega arith) in
          let up : 2 ^ e2 ≡ 2 ^ e * 2 ^ (e2 - e) = power_multiple e e2 (omega arith) in
          let first : f ≡ p * (2 ^ (e2 - e) * q)
          = is ∙ ap (λ (x : ℕ). x * q) (up ∙ ap (λ (x : ℕ). x * 2 ^ (e2 - e)) (sym power))
          ∙ mul_assoc p (2 ^ (e2 - e)) q in
          let even : (f + d) % p ≡ 0 = part.2 p least in
          let both : f + d ≡ p * ((f + d) / p) = omega (arith, div-add-mod (f + d) p) in
          let is_d : d ≡ p * ((f + d) / p - 2 ^ (e2 - e) * q)
          = omega (arith, mul-sub p ((f + d) / p) (2 ^ (e2 - e) * q)) in
          rw is_d (mul-mod_right p ((f + d) / p - 2 ^ (e2 - e) * q)),
    )
