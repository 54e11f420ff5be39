-- Chaining values of the chunks of a message, one after the other, cut where the tree is cut.
use Rattle.std.proofs.lemmas.Grind.{common_steps}
use Rattle.std.proofs.Common.{◌≡◌, ℕ, ◌+◌, ◌-◌, ◌*◌, ◌<◌, List, [], take, drop, get_or, refl, sym, ap₂, ◌∙◌, arith}
use Rattle.std.proofs.Common.{◌^◌, ap, add-zero, length, length-drop, length-take-le, pow-add, pow_pos}
use Rattle.std.proofs.lemmas.List.{get_or-drop, get_or-take, take_all}
use Rattle.b3.specs.Node.{cv}
use Rattle.b3.specs.Tree.{tree, parent, chunk_count, IsGreatestPowerBelow}
use Rattle.b3.specs.inside.Runs.{run_cv}
use Rattle.b3.proofs.Folding.{tree_split}
use Rattle.b3.proofs.Runs.{run_part, run_shift}

-- the node over the halves of a run of eight subtrees
pub halves_node : (key : List ℕ) (flags c : ℕ) (m : List ℕ) (l : ℕ) (left right : List ℕ) → length m ≡ 8192 * 2 ^ l
    → left ≡ run_cv key flags c m (l + 2) 0 → right ≡ run_cv key flags c m (l + 2) (4 * 2 ^ l)
    → parent key flags left right ≡ tree key flags c m
unfolding run_cv
halves_node key flags c m l left right len is_left is_right =
    let p : ℕ = 4 * 2 ^ l in
    let power : 2 ^ (l + 2) ≡ p = omega (arith, pow-add 2 l 2) in
    let cut : IsGreatestPowerBelow p (chunk_count m)
    = (l + 2, sym power, omega (arith, pow_pos l), omega (arith, pow_pos l)) in
    let rest : take (1024 * p) (drop (1024 * p) m) ≡ drop (1024 * p) m
    = take_all (1024 * p) (drop (1024 * p) m) (omega (arith, length-drop (1024 * p) m)) in
    ap₂ (parent key flags) (is_left ∙ rw (power, add-zero) refl)
    (is_right ∙ rw power (ap (λ (x : List ℕ). cv (tree key flags (c + p) x)) rest))
    ∙ sym (tree_split key flags c p m cut)

-- the value of a message of one chunk
pub one_value : (key : List ℕ) (flags c : ℕ) (m : List ℕ) → chunk_count m ≡ 1
    → run_cv key flags c m 0 0 ≡ cv (tree key flags c m)
unfolding run_cv
one_value key flags c m one =
    rw (take_all 1024 m (omega arith), add-zero) refl

module _ (key : List ℕ) (flags c p : ℕ) (m : List ℕ) (values : List (List ℕ))
    (cut : IsGreatestPowerBelow p (chunk_count m))
    (held : (i : ℕ) → i < chunk_count m → get_or values i [] ≡ run_cv key flags c m 0 i) where
  within : p < chunk_count m
  within = cut.2

  pub left_count : chunk_count (take (1024 * p) m) ≡ p
  left_count = omega (arith, within, length-take-le (1024 * p) m (omega (arith, within)))

  pub right_count : chunk_count (drop (1024 * p) m) ≡ chunk_count m - p
  right_count = omega (arith, within, length-drop (1024 * p) m)

  pub left_values : (i : ℕ) → i < p → get_or (take p values) i [] ≡ run_cv key flags c (take (1024 * p) m) 0 i
  left_values i h =
      get_or-take p values i [] h ∙ held i (omega (arith, within))
      ∙ sym (run_part key flags c p m 0 i (omega (arith, within)) (omega arith))

  pub right_values : (i : ℕ) → i < chunk_count m - p
      → get_or (drop p values) i [] ≡ run_cv key flags (c + p) (drop (1024 * p) m) 0 i
  right_values i h = grind (arith, common_steps, get_or-drop, within, run_shift)

  -- the node over both sides
  pub split_node : (left right : List ℕ) → left ≡ cv (tree key flags c (take (1024 * p) m))
      → right ≡ cv (tree key flags (c + p) (drop (1024 * p) m)) → parent key flags left right ≡ tree key flags c m
  split_node left right is_left is_right = grind (arith, common_steps, tree_split)
