-- Subtrees in a run of chunks that begins anywhere in the message.
use Rattle.std.specs.Prelude.{ℕ, ◌+◌, ◌*◌, ◌^◌, List, take, drop}
use Rattle.b3.specs.Node.{cv}
use Rattle.b3.specs.Chunk.{value_before}
use Rattle.b3.specs.Tree.{tree}

-- the chaining value of the subtree of 2 ^ l chunks that begins at chunk i of the run m; the first
-- chunk of the run has the number c
unfoldable pub run_cv : List ℕ → ℕ → ℕ → List ℕ → ℕ → ℕ → List ℕ
run_cv key flags c m l i = cv (tree key flags (c + i) (take (1024 * 2 ^ l) (drop (1024 * i) m)))

-- the chaining value before the last block of chunk i, which is whole
abbrev pub value_before_last : List ℕ → ℕ → ℕ → List ℕ → ℕ → List ℕ
value_before_last key flags c m i = value_before key flags (c + i) (take 1024 (drop (1024 * i) m)) 15
