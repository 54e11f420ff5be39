-- What describes a part of a message: the number of its first chunk, how many bytes it has, and its chaining value (the
-- BLAKE3 paper, 2.1).
use Rattle.std.specs.Prelude.{◌≡◌, ℕ, List, length}
use Rattle.b3.specs.Modes.{tree_of}
use Rattle.b3.specs.Node.{cv}
use Rattle.b3.specs.declared.row.PartValue.{PartValue}

-- the description fits the bytes m, under the parameters
pub record IsValueOf (parameters : List ℕ) (part : PartValue) (m : List ℕ) : Type 0 where
  pub len : part.len ≡ length m
  pub value : part.value ≡ cv (tree_of parameters part.first_chunk m)
