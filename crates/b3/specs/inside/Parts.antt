-- What a contract sees of a part.
use Rattle.std.specs.Prelude.{◌≡◌, ℕ, List, length}
use Rattle.b3.specs.Modes.{tree_of}
use Rattle.b3.specs.Parts.{mode_parameters}
use Rattle.b3.specs.declared.mode.Mode.{Mode}
use Rattle.b3.specs.declared.part.Part.{Part}

-- its mode
abbrev pub part_mode : Part → Mode
part_mode part = part.mode

-- the number of its first chunk
abbrev pub part_first : Part → ℕ
part_first part = part.first_chunk

-- how many bytes it has
abbrev pub part_len : Part → ℕ
part_len part = part.len

-- the part is that of the bytes m: it keeps their number and their tree
pub record IsPart (part : Part) (m : List ℕ) : Type 0 where
  pub len : part_len part ≡ length m
  pub node : part.node ≡ tree_of (mode_parameters (part_mode part)) (part_first part) m
