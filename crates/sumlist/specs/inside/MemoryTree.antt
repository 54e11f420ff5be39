-- What contracts see of files in memory.
use Rattle.std.specs.Prelude.{ℕ, ◌-◌, List, Option, None, Some, nat_le, if◌then◌else◌}
use Rattle.sumlist.specs.Named.{first_place, map_content}
use Rattle.sumlist.specs.declared.memory.MemoryTree.{MemoryTree}

-- the content of a name in the map that was lent
abbrev pub tree_content : MemoryTree → List ℕ → Option (List ℕ)
tree_content t name = map_content t.files.now name

-- how many reads of files that were closed have failed
abbrev pub tree_failures : MemoryTree → ℕ
tree_failures t = t.failures

-- the most bytes that one read gives
abbrev pub tree_most : MemoryTree → ℕ
tree_most t = t.most

-- the place at which reads of this name fail, where there is one
abbrev pub tree_place : MemoryTree → List ℕ → Option ℕ
tree_place t name = first_place (λ p. p.0.now) (λ p. p.1) t.places.now name

-- a place counted from a position on, where it does not stand before that
abbrev pub place_from : ℕ → Option ℕ → Option ℕ
place_from position None = None
place_from position (Some place) = if nat_le position place then Some (place - position) else None
