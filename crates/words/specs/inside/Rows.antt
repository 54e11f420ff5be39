-- The sixteen words of a state as four rows of four.
use Rattle.std.specs.Prelude.{◌≡◌, ℕ, ◌<◌, suc, List, [], ◌∷◌, slice_index, slice_index_or}
use Rattle.words.specs.Mix.{Variant, g, rotated_xor, word_sum}

-- the word at place j of row i
abbrev pub row_word : List (List ℕ) → ℕ → ℕ → ℕ
row_word rows i j = slice_index (slice_index_or rows i []) j

-- the words at place j of the four rows
abbrev pub column : List (List ℕ) → ℕ → List ℕ
column rows j = row_word rows 0 j ∷ row_word rows 1 j ∷ row_word rows 2 j ∷ row_word rows 3 j ∷ []

-- the words of m at four places of the schedule s
abbrev pub picked_words : List ℕ → List ℕ → List ℕ → List ℕ
picked_words m s places =
    let at : ℕ → ℕ = λ i. slice_index m (slice_index s (slice_index places i)) in
    at 0 ∷ at 1 ∷ at 2 ∷ at 3 ∷ []

-- G down each column, with the words of x and y at its place
abbrev pub MixesColumns : Variant → List ℕ → List ℕ → List (List ℕ) → List (List ℕ) → Type 0
MixesColumns k x y rows mixed = (j : ℕ) → j < 4
    → column mixed j ≡ g k (column rows j) (slice_index x j) (slice_index y j)

-- half of G, with rotation number i and the next: G is the half with 0, and then that with 2
abbrev pub half_g : Variant → ℕ → List ℕ → ℕ → List ℕ
half_g k i v x =
    let a : ℕ = word_sum k (word_sum k (slice_index v 0) (slice_index v 1)) x in
    let d : ℕ = rotated_xor k i (slice_index v 3) a in
    let c : ℕ = word_sum k (slice_index v 2) d in
    let b : ℕ = rotated_xor k (suc i) (slice_index v 1) c in
    a ∷ b ∷ c ∷ d ∷ []
