-- What the plain numbers of a hasher stand for.
use Rattle.std.specs.Prelude.{◌≡◌, ℕ, ◌+◌, ◌*◌, ◌^◌, List, length}
use Rattle.sha2.specs.Sha256.{hash_after, initial_hash_256}
use Rattle.sha2.specs.Sha512.{initial_hash_512}
use Rattle.sha2.specs.Sha512 as S512
use Rattle.sha_blocks.specs.inside.Taken.{HasTaken}
use Rattle.states.specs.Begun.{IsBegun256, IsBegun512}
use Rattle.states.specs.declared.state256.Sha256State.{Sha256State}
use Rattle.states.specs.declared.state512.Sha512State.{Sha512State}

-- s has taken the message m
unfoldable pub StateHolds256 : Sha256State → List ℕ → Type 0
StateHolds256 s m = IsBegun256 s
    × (s.taken ≡ length m)
    × HasTaken (λ p k. hash_after initial_hash_256 p k) 64 s.h s.buffer m

-- how many bytes a hasher of SHA-512 has taken
abbrev pub taken_512 : Sha512State → ℕ
taken_512 s = s.taken_low + 2 ^ 64 * s.taken_high

-- the same of SHA-512
unfoldable pub StateHolds512 : Sha512State → List ℕ → Type 0
StateHolds512 s m = IsBegun512 s
    × (taken_512 s ≡ length m)
    × HasTaken (λ p k. S512.hash_after initial_hash_512 p k) 128 s.h s.buffer m
