-- BLAKE2 without a key, with its longest digest (RFC 7693, 2.1 and 3), as HMAC and HKDF take it.
use Rattle.std.specs.Prelude.{ℕ, List, []}
use Rattle.words.specs.Blake2.{blake2b, blake2s}
use Rattle.blake2.specs.Blake2.{blake2, unsalted}

-- BLAKE2b with digests of 64 bytes
abbrev pub blake2b_512 : List ℕ → List ℕ
blake2b_512 = blake2 blake2b (unsalted blake2b 64 [])

-- BLAKE2s with digests of 32 bytes
abbrev pub blake2s_256 : List ℕ → List ℕ
blake2s_256 = blake2 blake2s (unsalted blake2s 32 [])
