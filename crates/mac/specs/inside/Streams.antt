-- What contracts see of the SHA-2 streams.
use Rattle.std.specs.Prelude.{◌≡◌, ℕ, ◌+◌, ◌-◌, ◌^◌, List, length}
use Rattle.sha2.specs.Sha256.{hash_after, initial_hash_256}
use Rattle.sha2.specs.Sha512.{initial_hash_512}
use Rattle.sha2.specs.Sha512 as S512
use Rattle.sha_blocks.specs.inside.Taken.{HasTaken}
use Rattle.mac.specs.declared.sha256_stream.Sha256Stream.{Sha256Stream}
use Rattle.mac.specs.declared.sha512_stream.Sha512Stream.{Sha512Stream}

-- how many more bytes the stream takes
abbrev pub room_256 : Sha256Stream → ℕ
room_256 s = s.room

abbrev pub room_512 : Sha512Stream → ℕ
room_512 s = s.room

-- value and buffer have taken the input, and the room is what is left of the limit
pub record StreamHolds256 (s : Sha256Stream) (m : List ℕ) : Type 0 where
  pub taken : HasTaken (λ p k. hash_after initial_hash_256 p k) 64 s.value.h s.buffer m
  pub room : s.room + length m ≡ 2 ^ 61 - 1

-- the same of SHA-512
pub record StreamHolds512 (s : Sha512Stream) (m : List ℕ) : Type 0 where
  pub taken : HasTaken (λ p k. S512.hash_after initial_hash_512 p k) 128 s.value.h s.buffer m
  pub room : s.room + length m ≡ 2 ^ 125 - 1
