-- The tree over a message (the BLAKE3 paper, 2.1 and 2.5).
use Rattle.std.specs.Prelude.{◌≡◌, ℕ, zero, suc, true, false, ◌+◌, ◌-◌, ◌*◌, ◌/◌, ◌^◌, ◌<◌, ◌≤◌, leb, List, ◌++◌, take}
use Rattle.std.specs.Prelude.{drop, length}
use Rattle.b3.specs.Node.{Node, cv}
use Rattle.b3.specs.Chunk.{chunk}

-- how many chunks a message has, at least one (2.1)
abbrev pub chunk_count : List ℕ → ℕ
chunk_count m = (length m - 1) / 1024 + 1

-- the node over a left and a right chaining value, with the flag PARENT, 4 (2.2 and 2.5)
unfoldable pub parent : List ℕ → ℕ → List ℕ → List ℕ → Node
parent key flags left right = record { h = key; m = left ++ right; t = 0; b = 64; d = flags + 4 }

-- the tree over a message of at most 2 ^ levels chunks, the first of which has the number c. If 2 ^ l chunks are too
-- few for it, and 2 ^ (l + 1) are not, 2 ^ l is the greatest power of two below its number of chunks, and the left
-- subtree has that many (2.1)
unfoldable pub tree_within : ℕ → List ℕ → ℕ → ℕ → List ℕ → Node
tree_within zero key flags c m = chunk key flags c m
tree_within (suc l) key flags c m = elim (leb (chunk_count m) (2 ^ l)) [
  | true ↦ tree_within l key flags c m
  | false ↦ parent key flags (cv (tree_within l key flags c (take (1024 * 2 ^ l) m)))
      (cv (tree_within l key flags (c + 2 ^ l) (drop (1024 * 2 ^ l) m)))
]

-- the tree over a message, the first chunk of which has the number c; n chunks fit in n levels
unfoldable pub tree : List ℕ → ℕ → ℕ → List ℕ → Node
tree key flags c m = tree_within (chunk_count m) key flags c m

-- p is the greatest power of two below n
abbrev pub IsGreatestPowerBelow : ℕ → ℕ → Type 0
IsGreatestPowerBelow p n = (e : ℕ) × (p ≡ 2 ^ e) × (p < n) × (n ≤ 2 * p)
