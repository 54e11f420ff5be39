-- What contracts see of the two hashers.
use Rattle.std.specs.Prelude.{ℕ, ◌+◌, ◌-◌, ◌^◌, List}
use Rattle.words.specs.Blake2.{blake2b, blake2s}
use Rattle.blake2.specs.Blake2.{Parameters, listed, salted}
use Rattle.blake2.specs.inside.Held.{HoldsMessage}
use Rattle.blake2.specs.declared.blake2b.Blake2b.{Blake2b}
use Rattle.blake2.specs.declared.blake2s.Blake2s.{Blake2s}
use Rattle.blake2.specs.declared.chain.Chain.{Ghosts}
use Rattle.blake2.specs.declared.hasher.Hasher.{Hasher}

-- the parameters of a hasher over either chaining value
abbrev pub hasher_parameters : {C : Type 0} {N S : ℕ} {G : Ghosts C N} → Hasher C N S G → Parameters
hasher_parameters h = salted h.digest_length h.key h.salt h.personal

-- the hasher has taken the message m
unfoldable pub Holds2b : Blake2b → List ℕ → Type 0
Holds2b s m = HoldsMessage blake2b (hasher_parameters s.hasher)
    s.hasher.stream.chain.h s.hasher.stream.buffer s.hasher.stream.used s.hasher.stream.compressed m

-- the hasher has taken the message m
unfoldable pub Holds2s : Blake2s → List ℕ → Type 0
Holds2s s m = HoldsMessage blake2s (hasher_parameters s.hasher)
    s.hasher.stream.chain.h s.hasher.stream.buffer s.hasher.stream.used s.hasher.stream.compressed m

-- its parameters
unfoldable pub parameters_2b : Blake2b → List ℕ
parameters_2b s = listed (hasher_parameters s.hasher)

-- its parameters
unfoldable pub parameters_2s : Blake2s → List ℕ
parameters_2s s = listed (hasher_parameters s.hasher)

-- how many more bytes it takes
unfoldable pub room_left_2b : Blake2b → ℕ
room_left_2b s = 2 ^ 128 - 1 - (s.hasher.stream.compressed + s.hasher.stream.used)

-- how many more bytes it takes
unfoldable pub room_left_2s : Blake2s → ℕ
room_left_2s s = 2 ^ 64 - 1 - (s.hasher.stream.compressed + s.hasher.stream.used)
