-- The hashes: the digest of each, and its numbers.
use Rattle.std.specs.Prelude.{ℕ, ◌-◌, ◌^◌, ◌≤◌, ⊤, List, []}
use Rattle.b3.specs.Bytes.{slice}
use Rattle.b3.specs.Modes.{hash_root}
use Rattle.blake2.specs.Blake2.{blake2, unsalted}
use Rattle.sha2.specs.Sha256.{sha256}
use Rattle.sha2.specs.Sha512.{sha512}
use Rattle.words.specs.Blake2.{blake2b, blake2s}
use Rattle.hashes.specs.declared.alg.Alg.{Alg}
use Rattle.hashes.specs.declared.alg.Alg.TheVariants.{Blake2b, Blake2s, Blake3, Sha256, Sha512}

-- a hash function: how many bytes a digest, a block and the longest input have, and the digest of an input
pub record Function : Type 0 where
  pub out : ℕ
  pub block : ℕ
  pub limit : ℕ
  pub of : List ℕ → List ℕ

-- each of the hashes (FIPS 180-4, 1, 6.2 and 6.4; RFC 7693, 2.1 and 3.3, without a key; the BLAKE3 paper, 2.1 and 2.6,
-- with the default length)
abbrev pub function : Alg → Function
function Sha256 = record { out = 32; block = 64; limit = 2 ^ 61 - 1; of = sha256 }
function Sha512 = record { out = 64; block = 128; limit = 2 ^ 125 - 1; of = sha512 }
function (Blake2b n) = record { out = n; block = 128; limit = 2 ^ 128 - 1; of = blake2 blake2b (unsalted blake2b n []) }
function (Blake2s n) = record { out = n; block = 64; limit = 2 ^ 64 - 1; of = blake2 blake2s (unsalted blake2s n []) }
function Blake3 = record { out = 32; block = 64; limit = 2 ^ 64 - 1; of = λ m. slice (hash_root m) 0 32 }

-- whether the hash has digests of this length (RFC 7693, 2.1)
abbrev pub IsInRange : Alg → Type 0
IsInRange (Blake2b n) = (1 ≤ n) × (n ≤ 64)
IsInRange (Blake2s n) = (1 ≤ n) × (n ≤ 32)
IsInRange _ = ⊤

-- the digest of an input
abbrev pub digest : Alg → List ℕ → List ℕ
digest alg = (function alg).of

-- how many bytes a digest has
abbrev pub digest_len : Alg → ℕ
digest_len alg = (function alg).out

-- how many bytes a block has
abbrev pub block_len : Alg → ℕ
block_len alg = (function alg).block

-- how many bytes the longest input has
abbrev pub input_limit : Alg → ℕ
input_limit alg = (function alg).limit
