-- The recursion of the tree from the top is a fold of its subtrees from the end: over k closed
-- chunks and a last one, the left subtrees of the recursion are the trees of the one-bits of k.
use Rattle.std.proofs.lemmas.Grind.{common_steps}
use Rattle.std.proofs.Common.{◌≡◌, ℕ, zero, suc, ◌+◌, ◌-◌, ◌*◌, ◌^◌, ◌<◌, ◌≤◌, List, [], ◌∷◌, ◌++◌, length, take, drop}
use Rattle.std.proofs.Common.{refl, sym, ap, ◌∙◌, arith, add-zero, pow_pos, pow_mono, length-drop, length-take-le}
use Rattle.std.proofs.Math.Nat.{pow-succ'}
use Rattle.std.proofs.lemmas.Bool.{le-leb, lt-leb}
use Rattle.std.proofs.lemmas.List.{drop-drop, take-take, drop-take, take-append-le, drop-append-le}
use Rattle.b3.specs.Node.{Node, cv}
use Rattle.b3.specs.Chunk.{chunk}
use Rattle.b3.specs.Tree.{parent, tree_within, tree, chunk_count, IsGreatestPowerBelow}
use Rattle.b3.specs.inside.Runs.{run_cv}

n-lt-pow : (n : ℕ) → n < 2 ^ n
n-lt-pow zero = pow_pos 0
n-lt-pow (suc n) =
    let double : 2 ^ suc n ≡ 2 * 2 ^ n = pow-succ' 2 n in
    omega (arith, n-lt-pow n)

module _ (key : List ℕ) (flags : ℕ) where
  within_low : (l c : ℕ) (m : List ℕ) → chunk_count m ≤ 2 ^ l
      → tree_within (suc l) key flags c m ≡ tree_within l key flags c m
  unfolding tree_within
  within_low l c m h = rw (le-leb (chunk_count m) (2 ^ l) h, tree_within) refl

  within_high : (l c : ℕ) (m : List ℕ) → 2 ^ l < chunk_count m → tree_within (suc l) key flags c m
      ≡ parent key flags (cv (tree_within l key flags c (take (1024 * 2 ^ l) m)))
      (cv (tree_within l key flags (c + 2 ^ l) (drop (1024 * 2 ^ l) m)))
  unfolding tree_within
  within_high l c m h = rw (lt-leb (chunk_count m) (2 ^ l) h, tree_within) refl

  -- levels beyond those that the message needs change nothing
  within_more : (l d c : ℕ) (m : List ℕ) → chunk_count m ≤ 2 ^ l
      → tree_within (l + d) key flags c m ≡ tree_within l key flags c m
  within_more l zero c m h = rw add-zero refl
  within_more l (suc d) c m h =
      let e : l + suc d ≡ suc (l + d) = omega arith in
      let more : 2 ^ l ≤ 2 ^ (l + d) = pow_mono (omega arith) in
      rw e (within_low (l + d) c m (omega arith) ∙ within_more l d c m h)

  pub within_enough : (l c : ℕ) (m : List ℕ) → chunk_count m ≤ 2 ^ l
      → tree_within l key flags c m ≡ tree key flags c m
  unfolding tree
  within_enough l c m h =
      let n : ℕ = chunk_count m in
      let other : n ≤ 2 ^ n = omega (arith, n-lt-pow n) in
      let e : l + n ≡ n + l = omega arith in
      sym (within_more l n c m h) ∙ ap (λ (k : ℕ). tree_within k key flags c m) e ∙ within_more n l c m other

  -- the first law of the tree: a message of one chunk
  pub tree_one : (c : ℕ) (m : List ℕ) → chunk_count m ≡ 1 → tree key flags c m ≡ chunk key flags c m
  unfolding tree_within
  tree_one c m h = sym (within_enough 0 c m (omega arith))

  -- the second: the left subtree has the greatest power of two below the number of chunks
  pub tree_split : (c p : ℕ) (m : List ℕ) → IsGreatestPowerBelow p (chunk_count m) → tree key flags c m
      ≡ parent key flags (cv (tree key flags c (take (1024 * p) m))) (cv (tree key flags (c + p) (drop (1024 * p) m)))
  tree_split c p m (e, is, below, above) =
      let p_is : 2 ^ e ≡ p = sym is in
      let double : 2 ^ suc e ≡ 2 * 2 ^ e = pow-succ' 2 e in
      let len : length (take (1024 * 2 ^ e) m) ≡ 1024 * 2 ^ e = length-take-le (1024 * 2 ^ e) m (omega arith) in
      let rest : length (drop (1024 * 2 ^ e) m) ≡ length m - 1024 * 2 ^ e = length-drop (1024 * 2 ^ e) m in
      let left : tree_within e key flags c (take (1024 * 2 ^ e) m) ≡ tree key flags c (take (1024 * 2 ^ e) m)
      = within_enough e c (take (1024 * 2 ^ e) m) (omega (arith, pow_pos e)) in
      let right : tree_within e key flags (c + 2 ^ e) (drop (1024 * 2 ^ e) m)
      ≡ tree key flags (c + 2 ^ e) (drop (1024 * 2 ^ e) m)
      = within_enough e (c + 2 ^ e) (drop (1024 * 2 ^ e) m) (omega arith) in
      rw is (sym (within_enough (suc e) c m (omega arith)) ∙ within_high e c m (omega arith)
      ∙ rw (left, right) refl)

-- the root over chaining values of subtrees, from the left, and the node of what is right of them
unfoldable pub root_over : List ℕ → ℕ → List (List ℕ) → Node → Node
root_over key flags [] last = last
root_over key flags (x ∷ xs) last = parent key flags x (cv (root_over key flags xs last))

-- folding from the right: the last subtree is joined first
pub root_over-push : (key : List ℕ) (flags : ℕ) (xs : List (List ℕ)) (x : List ℕ) (last : Node)
    → root_over key flags (xs ++ x ∷ []) last ≡ root_over key flags xs (parent key flags x (cv last))
unfolding root_over
root_over-push key flags [] x last = refl
root_over-push key flags (y ∷ ys) x last =
    ap (λ (n : Node). parent key flags y (cv n)) (root_over-push key flags ys x last)

-- in a run of chunks
module _ (key : List ℕ) (flags c : ℕ) (m : List ℕ) where
  -- two subtrees of one size side by side are a subtree
  pub run_join : (l i : ℕ) → 1024 * (i + 2 ^ suc l) ≤ length m
      → run_cv key flags c m (suc l) i
      ≡ cv (parent key flags (run_cv key flags c m l i) (run_cv key flags c m l (i + 2 ^ l)))
  unfolding run_cv
  run_join l i h =
      let p : ℕ = 2 ^ l in
      let double : 2 ^ suc l ≡ 2 * p = pow-succ' 2 l in
      let rest : List ℕ = drop (1024 * i) m in
      let rest_len : length rest ≡ length m - 1024 * i = length-drop (1024 * i) m in
      let whole : List ℕ = take (1024 * 2 ^ suc l) rest in
      let len : length whole ≡ 1024 * 2 ^ suc l = length-take-le (1024 * 2 ^ suc l) rest (omega arith) in
      let cut : IsGreatestPowerBelow p (chunk_count whole)
      = (l, refl, omega (arith, pow_pos l), omega (arith, pow_pos l)) in
      let first : take (1024 * p) whole ≡ take (1024 * p) rest
      = take-take (1024 * p) (1024 * 2 ^ suc l) rest (omega arith) in
      let size : 1024 * 2 ^ suc l ≡ 1024 * p + 1024 * p = omega arith in
      let at : 1024 * i + 1024 * p ≡ 1024 * (i + p) = omega arith in
      let place : c + i + p ≡ c + (i + p) = omega arith in
      let second : drop (1024 * p) whole ≡ take (1024 * p) (drop (1024 * (i + p)) m)
      = ap (λ (n : ℕ). drop (1024 * p) (take n rest)) size ∙ drop-take (1024 * p) (1024 * p) rest
      ∙ ap (λ (ys : List ℕ). take (1024 * p) ys) (drop-drop (1024 * p) (1024 * i) m ∙ ap (λ (n : ℕ). drop n m) at) in
      ap cv (tree_split key flags (c + i) p whole cut ∙ rw (first, second, place) refl)

  -- a whole chunk is the least subtree
  pub run_chunk : (i : ℕ) → 1024 * (i + 1) ≤ length m
      → run_cv key flags c m 0 i ≡ cv (chunk key flags (c + i) (take 1024 (drop (1024 * i) m)))
  unfolding run_cv
  run_chunk i h =
      let rest_len : length (drop (1024 * i) m) ≡ length m - 1024 * i = length-drop (1024 * i) m in
      let len : length (take 1024 (drop (1024 * i) m)) ≡ 1024
      = length-take-le 1024 (drop (1024 * i) m) (omega arith) in
      ap cv (tree_one key flags (c + i) (take 1024 (drop (1024 * i) m)) (omega arith))

  -- bytes that come later change no whole subtree
  pub run_append : (x : List ℕ) (l i : ℕ) → 1024 * (i + 2 ^ l) ≤ length m
      → run_cv key flags c (m ++ x) l i ≡ run_cv key flags c m l i
  unfolding run_cv
  run_append x l i h = grind (arith, common_steps, length-drop, drop-append-le, take-append-le)
