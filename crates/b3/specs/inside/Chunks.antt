-- What the open chunk stands for.
use Rattle.std.specs.Prelude.{◌≡◌, ℕ, ◌-◌, ◌*◌, List, take, drop, length}
use Rattle.b3.specs.Chunk.{chunk, value_before, last_block}
use Rattle.b3.specs.Node.{cv}
use Rattle.b3.specs.declared.chunk.Chunk.{Chunk}

-- s has taken the bytes x of chunk number c: its last block is open, also where it is full
pub record IsChunk (key : List ℕ) (flags c : ℕ) (s : Chunk) (x : List ℕ) : Type 0 where
  pub len : s.len ≡ length x
  pub value : s.value ≡ value_before key flags c x (last_block x)
  pub block : take (length x - 64 * last_block x) s.block ≡ drop (64 * last_block x) x

-- v is the chaining value of s, as chunk number c
abbrev pub IsChunkValue : List ℕ → ℕ → ℕ → Chunk → List ℕ → Type 0
IsChunkValue key flags c s v = (x : List ℕ) → IsChunk key flags c s x → v ≡ cv (chunk key flags c x)
