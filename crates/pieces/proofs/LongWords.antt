-- Words of eight bytes that vectors load.
use Rattle.std.proofs.Common.{◌≡◌, ℕ, ◌<◌, ◌+◌, ◌*◌, List, [], ◌∷◌, slice_index, drop, arith, refl, ap}
use Rattle.std.proofs.lemmas.List.{get_or-drop}
use Rattle.byteorder.specs.Endian.{little_number}
use Rattle.words.specs.Words.{words}
use Rattle.words.proofs.LongTurns.{word_of}

-- eight bytes of a list as a word
pub le_word : (x : List ℕ) (at p q r s t u v w : ℕ) → p ≡ at → q ≡ at + 1 → r ≡ at + 2 → s ≡ at + 3 → t ≡ at + 4
    → u ≡ at + 5 → v ≡ at + 6 → w ≡ at + 7
    → word_of (slice_index x p) (slice_index x q) (slice_index x r) (slice_index x s) (slice_index x t)
    (slice_index x u) (slice_index x v) (slice_index x w) ≡ little_number 8 (drop at x)
le_word x at p q r s t u v w hp hq hr hs ht hu hv hw =
    let none : at + 0 ≡ at = omega arith in
    rw (
      hp,
      hq,
      hr,
      hs,
      ht,
      hu,
      hv,
      hw,
      get_or-drop at x 0 0,
      get_or-drop at x 1 0,
      get_or-drop at x 2 0,
      get_or-drop at x 3 0,
      get_or-drop at x 4 0,
      get_or-drop at x 5 0,
      get_or-drop at x 6 0,
      get_or-drop at x 7 0,
      none,
    ) refl

-- four words of 32 bytes, which stand in x from `at` on
pub words_loaded : (x l : List ℕ) (at : ℕ) → ((n : ℕ) → n < 32 → slice_index l n ≡ slice_index x (at + n))
    → (n : ℕ) → n < 4
    → word_of (slice_index l (8 * n)) (slice_index l (8 * n + 1)) (slice_index l (8 * n + 2))
    (slice_index l (8 * n + 3)) (slice_index l (8 * n + 4)) (slice_index l (8 * n + 5))
    (slice_index l (8 * n + 6)) (slice_index l (8 * n + 7))
    ≡ little_number 8 (drop (at + 8 * n) x)
words_loaded x l at loaded n h =
    rw (
      loaded (8 * n) (omega arith),
      loaded (8 * n + 1) (omega arith),
      loaded (8 * n + 2) (omega arith),
      loaded (8 * n + 3) (omega arith),
      loaded (8 * n + 4) (omega arith),
      loaded (8 * n + 5) (omega arith),
      loaded (8 * n + 6) (omega arith),
      loaded (8 * n + 7) (omega arith),
    )
    (le_word x (at + 8 * n) _ _ _ _ _ _ _ _ (omega arith) (omega arith) (omega arith) (omega arith) (omega arith)
    (omega arith) (omega arith) (omega arith))

-- the words of a block, four at a time
pub block_read : (b y : List ℕ) (f g h k : ℕ → ℕ)
    → ((n : ℕ) → n < 4 → f n ≡ little_number 8 (drop (0 + 8 * n) b))
    → ((n : ℕ) → n < 4 → g n ≡ little_number 8 (drop (32 + 8 * n) b))
    → ((n : ℕ) → n < 4 → h n ≡ little_number 8 (drop (64 + 8 * n) b))
    → ((n : ℕ) → n < 4 → k n ≡ little_number 8 (drop (96 + 8 * n) b)) → b ≡ y
    → f 0 ∷ f 1 ∷ f 2 ∷ f 3 ∷ g 0 ∷ g 1 ∷ g 2 ∷ g 3 ∷ h 0 ∷ h 1 ∷ h 2 ∷ h 3 ∷ k 0 ∷ k 1 ∷ k 2 ∷ k 3 ∷ []
    ≡ words 8 16 y
unfolding words
block_read b y f g h k first second third fourth same =
    rw (
      first 0 (omega arith),
      first 1 (omega arith),
      first 2 (omega arith),
      first 3 (omega arith),
      second 0 (omega arith),
      second 1 (omega arith),
      second 2 (omega arith),
      second 3 (omega arith),
      third 0 (omega arith),
      third 1 (omega arith),
      third 2 (omega arith),
      third 3 (omega arith),
      fourth 0 (omega arith),
      fourth 1 (omega arith),
      fourth 2 (omega arith),
      fourth 3 (omega arith),
    )
    (ap (λ (x : List ℕ). words 8 16 x) same)
