-- Digests of pieces by the definition, computed, where the digest of a message is its length and its bytes.
use Rattle.std.proofs.Common.{◌≡◌, ℕ, List, [], ◌∷◌, refl, length}
use Rattle.pieces.specs.Pieces.{first_digests, digests}

-- a hash function that shows what it was given
abbrev shown : List ℕ → List ℕ
shown m = length m ∷ m

pub no_piece : digests shown 3 [] ≡ []
unfolding first_digests
no_piece = refl

pub last_is_short : digests shown 3 (1 ∷ 2 ∷ 3 ∷ 4 ∷ 5 ∷ 6 ∷ 7 ∷ []) ≡
    3 ∷ 1 ∷ 2 ∷ 3 ∷ 3 ∷ 4 ∷ 5 ∷ 6 ∷ 1 ∷ 7 ∷ []
unfolding first_digests
last_is_short = refl

pub last_is_whole : digests shown 3 (1 ∷ 2 ∷ 3 ∷ 4 ∷ 5 ∷ 6 ∷ []) ≡ 3 ∷ 1 ∷ 2 ∷ 3 ∷ 3 ∷ 4 ∷ 5 ∷ 6 ∷ []
unfolding first_digests
last_is_whole = refl

pub one_is_short : digests shown 9 (1 ∷ 2 ∷ []) ≡ 2 ∷ 1 ∷ 2 ∷ []
unfolding first_digests
one_is_short = refl
