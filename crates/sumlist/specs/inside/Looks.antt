-- What a malformed line looks like, by the answers of functions.
use Rattle.std.specs.Prelude.{◌≡◌, ℕ, List, Option, Some, MatchOption, length}
use Rattle.hashes.specs.declared.kind.Kind.{Kind}
use Rattle.sumlist.specs.Entry.{Listing}
use Rattle.sumlist.specs.Line.{Spells}
use Rattle.sumlist.specs.Report.{IsForeign, Meaning}
use Rattle.sumlist.specs.declared.look.Look.{Look}

-- of some kind the line would spell an entry with a digest of so many bytes
abbrev pub IsUntaggedOf : List ℕ → ℕ → Type 0
IsUntaggedOf line n = (other : Kind) × (e : Listing) × Spells line (Some other) e × (n ≡ length e.tag)

-- the look of a line in such a list, or that it has none
abbrev pub IsLook : Meaning → List ℕ → Option Look → Type 0
IsLook m line look = MatchOption look ((l : Look) → IsForeign m line l → ⊥) (IsForeign m line)
