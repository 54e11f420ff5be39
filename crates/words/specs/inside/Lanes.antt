-- Eight compressions side by side: each word is a vector, with one lane for each of them.
use Rattle.std.specs.Prelude.{◌≡◌, ℕ, ◌<◌, ◌+◌, ◌*◌, ◌/◌, ◌%◌, drop, List, [], ◌∷◌, map, slice_index, slice_index_or}
use Rattle.std.specs.List.{range_with_len}
use Rattle.byteorder.specs.Endian.{little_number}

-- lane i of vector k
abbrev pub lane_at : List (List ℕ) → ℕ → ℕ → ℕ
lane_at x k i = slice_index (slice_index_or x k []) i

-- the words in lane i of 4, of 8 and of 16 vectors
abbrev pub lane4 : ℕ → List (List ℕ) → List ℕ
lane4 i x =
    lane_at x 0 i ∷ lane_at x 1 i ∷ lane_at x 2 i ∷ lane_at x 3 i ∷ []

abbrev pub lane8 : ℕ → List (List ℕ) → List ℕ
lane8 i x =
    lane_at x 0 i ∷ lane_at x 1 i ∷ lane_at x 2 i ∷ lane_at x 3 i ∷
    lane_at x 4 i ∷ lane_at x 5 i ∷ lane_at x 6 i ∷ lane_at x 7 i ∷ []

unfoldable pub lane : ℕ → List (List ℕ) → List ℕ
lane i x =
    lane_at x 0 i ∷ lane_at x 1 i ∷ lane_at x 2 i ∷ lane_at x 3 i ∷
    lane_at x 4 i ∷ lane_at x 5 i ∷ lane_at x 6 i ∷ lane_at x 7 i ∷
    lane_at x 8 i ∷ lane_at x 9 i ∷ lane_at x 10 i ∷ lane_at x 11 i ∷
    lane_at x 12 i ∷ lane_at x 13 i ∷ lane_at x 14 i ∷ lane_at x 15 i ∷ []

-- eight rows of eight for their columns
abbrev pub transposed8 : List (List ℕ) → List (List ℕ)
transposed8 x =
    lane8 0 x ∷
    lane8 1 x ∷
    lane8 2 x ∷
    lane8 3 x ∷
    lane8 4 x ∷
    lane8 5 x ∷
    lane8 6 x ∷
    lane8 7 x ∷ []

-- where each byte of eight words comes from when they turn right by 16 and by 8: places in its block of 16
abbrev pub places_16 : List ℕ
places_16 = 2 ∷ 3 ∷ 0 ∷ 1 ∷ 6 ∷ 7 ∷ 4 ∷ 5 ∷ 10 ∷ 11 ∷ 8 ∷ 9 ∷ 14 ∷ 15 ∷ 12 ∷ 13 ∷ 2 ∷ 3 ∷ 0 ∷ 1 ∷ 6 ∷ 7 ∷ 4 ∷ 5 ∷ 10
    ∷ 11 ∷ 8 ∷ 9 ∷ 14 ∷ 15 ∷ 12 ∷ 13 ∷ []

abbrev pub places_8 : List ℕ
places_8 = 1 ∷ 2 ∷ 3 ∷ 0 ∷ 5 ∷ 6 ∷ 7 ∷ 4 ∷ 9 ∷ 10 ∷ 11 ∷ 8 ∷ 13 ∷ 14 ∷ 15 ∷ 12 ∷ 1 ∷ 2 ∷ 3 ∷ 0 ∷ 5 ∷ 6 ∷ 7 ∷ 4 ∷ 9 ∷ 10
    ∷ 11 ∷ 8 ∷ 13 ∷ 14 ∷ 15 ∷ 12 ∷ []

-- f of the words of x and y in each of n lanes
abbrev pub OnLanes : ℕ → (ℕ → ℕ → ℕ) → List ℕ → List ℕ → List ℕ → Type 0
OnLanes n f x y z = (i : ℕ) → i < n → slice_index z i ≡ f (slice_index x i) (slice_index y i)

-- the words in lane i of four vectors
abbrev pub column_at : {A : Type 0} → (A → List ℕ) → ℕ → (A × A × A × A) → List ℕ
column_at {A} words i x =
    slice_index (words x.0) i ∷ slice_index (words x.1) i ∷ slice_index (words x.2) i ∷ slice_index (words x.3) i ∷ []

-- the 32 bytes of words of n bytes each, where each word is turned right by r bytes
abbrev pub turned_bytes : ℕ → ℕ → List ℕ → List ℕ
turned_bytes n r x = map (λ i. slice_index x (n * (i / n) + (i + r) % n)) (range_with_len 0 32)

-- the word at byte i
abbrev pub word_at : List ℕ → ℕ → ℕ
word_at x i = little_number 4 (drop i x)
