-- A hasher that takes bytes piece by piece has taken all of them, and lost as much of its room.
use Rattle.std.proofs.lemmas.Grind.{common_steps}
use Rattle.std.proofs.Common.{◌≡◌, ℕ, ◌+◌, List, ◌++◌, Option, length, length-append, append_assoc, arith}
use Rattle.std.proofs.KnownBytes.{Consumes-trans}
use Rattle.source.specs.Pumped.{Appended, Gives}

-- between two moments, a hasher took these bytes
pub record Takes {A : Type 0} (holds : A → List ℕ → Type 0) (room_left : A → ℕ) (old new : A) (bytes : List ℕ)
    : Type 0 where
  pub appended : Appended holds old new bytes
  pub room : room_left new + length bytes ≡ room_left old

module _ {A : Type 0} (holds : A → List ℕ → Type 0) (room_left : A → ℕ) where
  -- one piece more
  pub Takes-more : (a b c : A) (front piece : List ℕ) → Takes holds room_left a b front
      → Appended holds b c piece → room_left b ≡ room_left c + length piece
      → Takes holds room_left a c (front ++ piece)
  Takes-more a b c front piece before more room = grind (arith, common_steps, append_assoc, length-append)

-- some bytes were given, and then some more
pub Gives-trans : (a b c : Option (List ℕ)) → Gives a b → Gives b c → Gives a c
Gives-trans a b c first second = (first.0 ++ second.0, Consumes-trans a b c _ _ first.1 second.1)
