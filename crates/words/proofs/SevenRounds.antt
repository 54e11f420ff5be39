-- The rounds of BLAKE3 in a lane, and the first words of output.
use Rattle.std.proofs.Common.{◌≡◌, ℕ, List, [], ◌∷◌, bit_xor, refl, slice_index, take}
use Rattle.words.specs.Blake2.{blake2s, schedule}
use Rattle.words.specs.Blake3.{folded_halves3, permuted_words, rounds3, words_in_order}
use Rattle.words.specs.Mix.{round}
use Rattle.words.specs.Tables.{permutation}

-- seven rounds, before all but the first of which the message words are permuted
pub seven_rounds : (v m : List ℕ) {m1 m2 m3 m4 m5 m6 v1 v2 v3 v4 v5 v6 v7 : List ℕ} → m1 ≡ words_in_order m permutation
    → m2 ≡ words_in_order m1 permutation → m3 ≡ words_in_order m2 permutation → m4 ≡ words_in_order m3 permutation
    → m5 ≡ words_in_order m4 permutation → m6 ≡ words_in_order m5 permutation → v1 ≡ round blake2s v m (schedule 0)
    → v2 ≡ round blake2s v1 m1 (schedule 0) → v3 ≡ round blake2s v2 m2 (schedule 0)
    → v4 ≡ round blake2s v3 m3 (schedule 0) → v5 ≡ round blake2s v4 m4 (schedule 0)
    → v6 ≡ round blake2s v5 m5 (schedule 0) → v7 ≡ round blake2s v6 m6 (schedule 0) → v7 ≡ rounds3 v m 7
unfolding rounds3 permuted_words
seven_rounds v m em1 em2 em3 em4 em5 em6 e1 e2 e3 e4 e5 e6 e7 =
    rw (e7, e6, e5, e4, e3, e2, e1, em6, em5, em4, em3, em2, em1) refl

-- the halves of v xored word by word
pub folded : (v : List ℕ) {a b c d e f g h : ℕ} → a ≡ bit_xor (slice_index v 0) (slice_index v 8)
    → b ≡ bit_xor (slice_index v 1) (slice_index v 9) → c ≡ bit_xor (slice_index v 2) (slice_index v 10)
    → d ≡ bit_xor (slice_index v 3) (slice_index v 11) → e ≡ bit_xor (slice_index v 4) (slice_index v 12)
    → f ≡ bit_xor (slice_index v 5) (slice_index v 13) → g ≡ bit_xor (slice_index v 6) (slice_index v 14)
    → h ≡ bit_xor (slice_index v 7) (slice_index v 15)
    → a ∷ b ∷ c ∷ d ∷ e ∷ f ∷ g ∷ h ∷ [] ≡ take 8 (folded_halves3 [] v)
folded v ea eb ec ed ee ef eg eh = rw (ea, eb, ec, ed, ee, ef, eg, eh) refl
