-- What contracts see of a hasher for any of the hashes: what they see of the hasher in it, whose hash
-- is told by a number before its parameters.
use Rattle.std.specs.Prelude.{◌≡◌, ℕ, ◌==◌, ◌+◌, ◌-◌, ◌^◌, List, [], ◌∷◌, drop, length, slice_index, if◌then◌else◌}
use Rattle.b3.specs.inside.Hasher as b3
use Rattle.b3.specs.inside.Rooms.{hasher_room-holds}
use Rattle.b3.specs.Modes.{hash_parameters}
use Rattle.blake2.specs.Blake2.{from_list, listed, message_limit, unsalted}
use Rattle.blake2.specs.inside.Hashers.{Holds2b, Holds2s, parameters_2b, parameters_2s, room_left_2b, room_left_2s}
use Rattle.blake2.specs.inside.Rooms.{room_is_2b, room_is_2s}
use Rattle.hashes.specs.declared.alg.Alg.{Alg}
use Rattle.hashes.specs.declared.alg.Alg.TheVariants as alg
use Rattle.mac.specs.inside.Streams.{StreamHolds256, StreamHolds512, room_256, room_512}
use Rattle.words.specs.Blake2.{blake2b, blake2s}
use Rattle.source.specs.declared.any_hash.AnyHash.{AnyHash}
use Rattle.source.specs.declared.any_hash.Inner.{Inner}
use Rattle.source.specs.declared.any_hash.Inner.TheVariants as inner

abbrev pub inner_holds : Inner → List ℕ → Type 0
inner_holds (inner.Sha256 h) m = StreamHolds256 h m
inner_holds (inner.Sha512 h) m = StreamHolds512 h m
inner_holds (inner.Blake2b h) m = Holds2b h m
inner_holds (inner.Blake2s h) m = Holds2s h m
inner_holds (inner.Blake3 h) m = b3.Holds h m

-- what a hasher hashes under: a number for the function, and then what that takes
abbrev pub inner_parameters : Inner → List ℕ
inner_parameters (inner.Sha256 h) = 0 ∷ []
inner_parameters (inner.Sha512 h) = 1 ∷ []
inner_parameters (inner.Blake2b h) = 2 ∷ parameters_2b h
inner_parameters (inner.Blake2s h) = 3 ∷ parameters_2s h
inner_parameters (inner.Blake3 h) = 4 ∷ b3.hasher_parameters h

-- the same of a hash without a key
abbrev pub parameters_of : Alg → List ℕ
parameters_of alg.Sha256 = 0 ∷ []
parameters_of alg.Sha512 = 1 ∷ []
parameters_of (alg.Blake2b n) = 2 ∷ listed (unsalted blake2b n [])
parameters_of (alg.Blake2s n) = 3 ∷ listed (unsalted blake2s n [])
parameters_of alg.Blake3 = 4 ∷ hash_parameters

abbrev pub inner_room : Inner → ℕ
inner_room (inner.Sha256 h) = room_256 h
inner_room (inner.Sha512 h) = room_512 h
inner_room (inner.Blake2b h) = room_left_2b h
inner_room (inner.Blake2s h) = room_left_2s h
inner_room (inner.Blake3 h) = b3.hasher_room h

-- the hasher has taken these bytes
abbrev pub any_holds : AnyHash → List ℕ → Type 0
any_holds s m = inner_holds s.inner m

-- which hash, and what it hashes under
abbrev pub any_parameters : AnyHash → List ℕ
any_parameters s = inner_parameters s.inner

-- how many more bytes it takes
abbrev pub any_room : AnyHash → ℕ
any_room s = inner_room s.inner

-- the greatest length of the input under such parameters
abbrev pub any_limit : List ℕ → ℕ
any_limit l =
    if slice_index l 0 == 0 then 2 ^ 61 - 1
    else if slice_index l 0 == 1 then 2 ^ 125 - 1
    else if slice_index l 0 == 2 then message_limit (2 ^ 128 - 1) 128 (from_list blake2b (drop 1 l)).key
    else if slice_index l 0 == 3 then message_limit (2 ^ 64 - 1) 64 (from_list blake2s (drop 1 l)).key
    else 2 ^ 64 - 1

-- ---- a hasher's room is what its input leaves of the limit

inner_room_is : (s : Inner) (m : List ℕ) → inner_holds s m → inner_room s + length m ≡ any_limit (inner_parameters s)
inner_room_is (inner.Sha256 h) m held = held.room
inner_room_is (inner.Sha512 h) m held = held.room
inner_room_is (inner.Blake2b h) m held = room_is_2b h m held
inner_room_is (inner.Blake2s h) m held = room_is_2s h m held
inner_room_is (inner.Blake3 h) m held = hasher_room-holds h m held

pub any_room_is : (s : AnyHash) (m : List ℕ) → any_holds s m → any_room s + length m ≡ any_limit (any_parameters s)
any_room_is s m held = inner_room_is s.inner m held
