-- Where a hasher stands in its input.
use Rattle.std.specs.Prelude.{◌≡◌, ℕ, ◌+◌, ◌-◌, ◌*◌, List, length, take, drop}
use Rattle.words.specs.Mix.{Variant}
use Rattle.blake2.specs.Blake2.{Parameters, block_count, block_len, chain, input, start}

-- from the value s, the value h has taken in p, which is n whole blocks
abbrev pub IsChained : Variant → List ℕ → List ℕ → List ℕ → ℕ → Type 0
IsChained k s p h n = (length p ≡ n * block_len k) × (h ≡ chain k s p n)

-- from the value s, the value h has taken in the input p but for its last block: that one's `used`
-- bytes stand first in the buffer, and `compressed` bytes come before it
unfoldable pub IsHeld : Variant → List ℕ → List ℕ → List ℕ → List ℕ → ℕ → ℕ → Type 0
IsHeld k s p h buffer used compressed = (length p ≡ compressed + used)
    × (compressed ≡ (block_count k (length p) - 1) * block_len k)
    × (h ≡ chain k s p (block_count k (length p) - 1))
    × (take used buffer ≡ drop compressed p)

-- the same of a hasher under parameters, whose message is m
abbrev pub HoldsMessage : Variant → Parameters → List ℕ → List ℕ → ℕ → ℕ → List ℕ → Type 0
HoldsMessage k p h buffer used compressed m =
    IsHeld k (start k p) (input k p.key m) h buffer used compressed
