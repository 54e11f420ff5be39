-- What the plain numbers of a hasher stand for.
use Rattle.std.specs.Prelude.{◌≡◌, ◌≤◌, ℕ, ◌+◌, ◌*◌, ◌^◌, List, length}
use Rattle.words.specs.Blake2.{blake2b, blake2s}
use Rattle.blake2.specs.Begun.{IsBegun2b, IsBegun2s}
use Rattle.blake2.specs.Blake2.{Parameters}
use Rattle.blake2.specs.inside.Held.{HoldsMessage}
use Rattle.blake2.specs.declared.state2b.Blake2bState.{Blake2bState}
use Rattle.blake2.specs.declared.state2s.Blake2sState.{Blake2sState}

-- how many bytes have been compressed
abbrev pub compressed_2b : Blake2bState → ℕ
compressed_2b s = s.compressed_low + 2 ^ 64 * s.compressed_high

-- s has taken the message m under the parameters
unfoldable pub StateHolds2b : Blake2bState → Parameters → List ℕ → Type 0
StateHolds2b s p m = IsBegun2b s
    × (s.digest_length ≡ p.digest_length)
    × (length p.key ≤ 64)
    × HoldsMessage blake2b p s.h s.buffer s.used (compressed_2b s) m

-- the same of BLAKE2s
unfoldable pub StateHolds2s : Blake2sState → Parameters → List ℕ → Type 0
StateHolds2s s p m = IsBegun2s s
    × (s.digest_length ≡ p.digest_length)
    × (length p.key ≤ 32)
    × HoldsMessage blake2s p s.h s.buffer s.used s.compressed m
