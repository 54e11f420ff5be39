-- How many parts a row can have.
use Rattle.std.specs.Prelude.{ℕ, ◌+◌, Option, None, Some}
use Rattle.b3.specs.declared.row.Row.{Row}
use Rattle.b3.specs.inside.Rows.{row_closed}

-- no more than chunks before the last one, and that one
abbrev pub most_parts : Option Row → ℕ
most_parts None = 0
most_parts (Some row) = row_closed row + 1
