-- Rounds of two inputs in the halves of rows.
use Rattle.std.proofs.lemmas.Grind.{common_steps}
use Rattle.std.proofs.Common.{◌≡◌, ℕ, ◌<◌, ◌+◌, ◌*◌, List, [], ◌∷◌, bit_xor, slice_index, take, arith, refl, subst}
use Rattle.words.specs.Blake2.{blake2s, schedule}
use Rattle.words.specs.Blake3.{folded_halves3}
use Rattle.words.specs.Mix.{g, round}
use Rattle.words.specs.inside.Halves.{half8, half16, half_message}
use Rattle.words.specs.inside.Rows.{MixesColumns, column, picked_words, row_word}
use Rattle.words.proofs.FourWords.{round_by_rows, rows_of, turned, words_back}
use Rattle.words.proofs.LaneLemmas.{below_four}
use Rattle.words.proofs.SevenRounds.{folded}

-- G down the eight columns, with the message words of rows r and s of m
abbrev MixesHalves : List (List ℕ) → ℕ → ℕ → List (List ℕ) → List (List ℕ) → Type 0
MixesHalves m r s rows mixed = (j : ℕ) → j < 8
    → column mixed j ≡ g blake2s (column rows j) (row_word m r j) (row_word m s j)

-- a round of each input, of which the rows t are turned
pub rounds_of_halves : (v m p t q : List (List ℕ)) → MixesHalves m 0 1 v p → MixesHalves m 2 3 t q
    → ((i : ℕ) → i < 2 → rows_of (half16 i t) ≡ turned (rows_of (half16 i p)))
    → (i : ℕ) → i < 2 → words_back (rows_of (half16 i q)) ≡ round blake2s (half16 i v) (half_message i m) (schedule 0)
unfolding half16 half_message
rounds_of_halves v m p t q first second same i h =
    round_by_rows blake2s (half16 i v) (half_message i m) (schedule 0) (rows_of (half16 i p)) (rows_of (half16 i q))
    refl
    (below_four _ (first (4 * i + 0) (omega arith)) (first (4 * i + 1) (omega arith)) (first (4 * i + 2) (omega arith))
    (first (4 * i + 3) (omega arith)))
    (subst (λ rows. MixesColumns blake2s (picked_words (half_message i m) (schedule 0) (14 ∷ 8 ∷ 10 ∷ 12 ∷ []))
    (picked_words (half_message i m) (schedule 0) (15 ∷ 9 ∷ 11 ∷ 13 ∷ [])) rows (rows_of (half16 i q))) (same i h)
    (below_four _ (second (4 * i + 0) (omega arith)) (second (4 * i + 1) (omega arith))
    (second (4 * i + 2) (omega arith)) (second (4 * i + 3) (omega arith))))

-- the halves of the rows v xored
pub halves_folded : (v : List (List ℕ)) (a b : List ℕ)
    → ((j : ℕ) → j < 8 → slice_index a j ≡ bit_xor (row_word v 0 j) (row_word v 2 j))
    → ((j : ℕ) → j < 8 → slice_index b j ≡ bit_xor (row_word v 1 j) (row_word v 3 j))
    → (i : ℕ) → i < 2 → half8 i (a ∷ b ∷ []) ≡ take 8 (folded_halves3 [] (half16 i v))
unfolding half16
halves_folded v a b first second i h = grind (arith, common_steps, folded)
