-- What the plain numbers of a hasher stand for.
use Rattle.std.specs.Prelude.{◌≡◌, ℕ, ◌+◌, ◌-◌, List, ◌∷◌, count_ones, take}
use Rattle.b3.specs.Begun.{IsBegun}
use Rattle.b3.specs.inside.Hasher.{Holds}
use Rattle.b3.specs.declared.hasher.Blake3.{Blake3}
use Rattle.b3.specs.declared.state.Blake3State.{Blake3State}

-- the fields of the hasher h are those of s
abbrev pub IsKept : Blake3State → Blake3 → Type 0
IsKept s h = (h.stack.parameters.flags + 1 ≡ s.mode)
    × (h.stack.parameters.key ≡ s.key)
    × (h.stack.closed ≡ s.closed)
    × (h.stack.values.items ≡ take (count_ones s.closed) s.stack)
    × (h.chunk.value ≡ s.value)
    × (h.chunk.block ≡ s.block)
    × (h.chunk.len ≡ s.len)

-- s has taken the message m under the parameters p: each hasher of its numbers holds m
unfoldable pub StateHolds : Blake3State → List ℕ → List ℕ → Type 0
StateHolds s p m = IsBegun s × (p ≡ (s.mode - 1) ∷ s.key) × ((h : Blake3) → IsKept s h → Holds h m)
