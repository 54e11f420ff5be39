-- Which plain numbers can be those of a hasher.
use Rattle.std.specs.Prelude.{◌≡◌, ◌≤◌, ◌+◌, ◌-◌, ◌*◌, ◌^◌}
use Rattle.states.specs.declared.state256.Sha256State.{Sha256State}
use Rattle.states.specs.declared.state512.Sha512State.{Sha512State}

-- the length of the digest, and a message within the limit (FIPS 180-4, 1); words and buffer can be anything
unfoldable pub IsBegun256 : Sha256State → Type 0
IsBegun256 s = (s.digest_length ≡ 32) × (s.taken ≤ 2 ^ 61 - 1)

-- likewise for SHA-512
unfoldable pub IsBegun512 : Sha512State → Type 0
IsBegun512 s = (s.digest_length ≡ 64) × (s.taken_low + 2 ^ 64 * s.taken_high ≤ 2 ^ 125 - 1)
