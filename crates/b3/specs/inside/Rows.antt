-- What a contract sees of a row of parts.
use Rattle.std.specs.Prelude.{◌≡◌, ℕ, ◌+◌, ◌*◌, List, ◌∷◌, drop, length}
use Rattle.b3.specs.Node.{cv}
use Rattle.b3.specs.Tree.{tree}
use Rattle.b3.specs.inside.Held.{HoldsRun}
use Rattle.b3.specs.declared.row.Row.{Row}

-- what a row hashes under
abbrev pub row_parameters : Row → List ℕ
row_parameters row = row.stack.parameters.flags ∷ row.stack.parameters.key

-- the number of its first chunk, how many chunks stand before its last part, and how many bytes that
-- part has
abbrev pub row_first : Row → ℕ
row_first row = row.first_chunk

abbrev pub row_closed : Row → ℕ
row_closed row = row.stack.closed

abbrev pub row_open : Row → ℕ
row_open row = row.len

-- how many bytes its parts have
abbrev pub row_count : Row → ℕ
row_count row = 1024 * row_closed row + row_open row

-- the row is that of the bytes m: the chunks before its last part are in the stack, as the chaining
-- values of subtrees
pub record HoldsRow (row : Row) (m : List ℕ) : Type 0 where
  pub len : row_count row ≡ length m
  pub stack : HoldsRun row.stack row.first_chunk m
  pub value : row.value ≡ cv (tree row.stack.parameters.key row.stack.parameters.flags
      (row.first_chunk + row.stack.closed) (drop (1024 * row.stack.closed) m))
