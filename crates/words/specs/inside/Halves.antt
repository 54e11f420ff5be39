-- Two compressions side by side: each row is a vector of eight words, four of one input and four of the other.
use Rattle.std.specs.Prelude.{ℕ, ◌+◌, ◌*◌, List, [], ◌∷◌, slice_index_or}
use Rattle.words.specs.inside.Rows.{row_word}

-- word j of input i in row r
abbrev pub half_word : ℕ → List (List ℕ) → ℕ → ℕ → ℕ
half_word i rows r j = row_word rows r (4 * i + j)

-- the words of input i in two and in four rows
abbrev pub half8 : ℕ → List (List ℕ) → List ℕ
half8 i x =
    half_word i x 0 0 ∷ half_word i x 0 1 ∷ half_word i x 0 2 ∷ half_word i x 0 3 ∷
    half_word i x 1 0 ∷ half_word i x 1 1 ∷ half_word i x 1 2 ∷ half_word i x 1 3 ∷ []

unfoldable pub half16 : ℕ → List (List ℕ) → List ℕ
half16 i x =
    half_word i x 0 0 ∷ half_word i x 0 1 ∷ half_word i x 0 2 ∷ half_word i x 0 3 ∷
    half_word i x 1 0 ∷ half_word i x 1 1 ∷ half_word i x 1 2 ∷ half_word i x 1 3 ∷
    half_word i x 2 0 ∷ half_word i x 2 1 ∷ half_word i x 2 2 ∷ half_word i x 2 3 ∷
    half_word i x 3 0 ∷ half_word i x 3 1 ∷ half_word i x 3 2 ∷ half_word i x 3 3 ∷ []

-- the message words of input i in four rows, as G takes them: first those of the columns and then those of the
-- diagonals, the last diagonal first
unfoldable pub half_message : ℕ → List (List ℕ) → List ℕ
half_message i m =
    half_word i m 0 0 ∷ half_word i m 1 0 ∷ half_word i m 0 1 ∷ half_word i m 1 1 ∷
    half_word i m 0 2 ∷ half_word i m 1 2 ∷ half_word i m 0 3 ∷ half_word i m 1 3 ∷
    half_word i m 2 1 ∷ half_word i m 3 1 ∷ half_word i m 2 2 ∷ half_word i m 3 2 ∷
    half_word i m 2 3 ∷ half_word i m 3 3 ∷ half_word i m 2 0 ∷ half_word i m 3 0 ∷ []

-- what f says of the inputs of two pairs, one after the other
abbrev pub of_pairs : (ℕ → List (List ℕ) → List ℕ) → List (List (List ℕ)) → ℕ → List ℕ
of_pairs f x i =
    let left : List (List ℕ) = slice_index_or x 0 [] in
    let right : List (List ℕ) = slice_index_or x 1 [] in
    slice_index_or (f 0 left ∷ f 1 left ∷ f 0 right ∷ f 1 right ∷ []) i []
