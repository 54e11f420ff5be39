-- What the reading of a line returns that builds no name.
use Rattle.std.specs.Prelude.{◌≡◌, ℕ, List, Option, Some}
use Rattle.hashes.specs.declared.kind.Kind.{Kind}
use Rattle.sumlist.specs.Line.{Spells, IsSkipped, IsMalformed, IsUntagged}
use Rattle.sumlist.specs.declared.line.Said.{Said}
use Rattle.sumlist.specs.declared.line.Said.TheVariants.{Skipped, Malformed, Untagged, Entry}
use Rattle.sumlist.specs.inside.Body.{name_of}

-- what the line means, where the text that stands for a name means that of the entry
abbrev pub IsSaid : List ℕ → Option Kind → Said → Type 0
IsSaid line kind Skipped = IsSkipped line
IsSaid line kind Malformed = IsMalformed line kind × (IsUntagged line kind → ⊥)
IsSaid line kind Untagged = IsUntagged line kind
IsSaid line kind (Entry alg tag given) = (name : List ℕ) × (name_of given.is_escaped given.text.now ≡ Some name)
    × Spells line kind (record { name = name; alg = alg; tag = tag })
