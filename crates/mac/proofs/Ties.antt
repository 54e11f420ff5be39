-- BLAKE2's initial values are those of SHA-2 (RFC 7693, 2.6), as two libraries have written them down.
use Rattle.std.proofs.Common.{◌≡◌, refl}
use Rattle.sha2.specs.Sha256.{initial_hash_256}
use Rattle.sha2.specs.Sha512.{initial_hash_512}
use Rattle.words.specs.Tables.{iv32, iv64}

pub iv32-initial_hash_256 : iv32 ≡ initial_hash_256
iv32-initial_hash_256 = refl

pub iv64-initial_hash_512 : iv64 ≡ initial_hash_512
iv64-initial_hash_512 = refl
