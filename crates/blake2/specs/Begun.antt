-- Which plain numbers can be those of a hasher.
use Rattle.std.specs.Prelude.{◌<◌, ◌≤◌, ◌+◌, ◌-◌, ◌*◌, ◌^◌}
use Rattle.blake2.specs.declared.state2b.Blake2bState.{Blake2bState}
use Rattle.blake2.specs.declared.state2s.Blake2sState.{Blake2sState}

-- a digest length, at most one block of bytes that are held, and an input within the limit (RFC 7693, 2.1); words and
-- buffer can be anything
unfoldable pub IsBegun2b : Blake2bState → Type 0
IsBegun2b s = (0 < s.digest_length) × (s.digest_length ≤ 64) × (s.used ≤ 128)
    × (s.compressed_low + 2 ^ 64 * s.compressed_high + s.used ≤ 2 ^ 128 - 1)

-- likewise for BLAKE2s
unfoldable pub IsBegun2s : Blake2sState → Type 0
IsBegun2s s = (0 < s.digest_length) × (s.digest_length ≤ 32) × (s.used ≤ 64) × (s.compressed + s.used ≤ 2 ^ 64 - 1)
