use Rattle.std.proofs.lemmas.Grind.{common_steps}
use Rattle.std.proofs.Common.{◌≡◌, ℕ, ◌<◌, ◌+◌, ◌-◌, ◌*◌, ◌/◌, ◌%◌, ◌^◌, List, [], ◌∷◌, length, slice_index}
use Rattle.std.proofs.Common.{slice_index_or, bit_or, bit_xor, arith, ap, map, sym, ◌∙◌, replicate}
use Rattle.std.specs.Simd.Lanes.{zip2, Each1}
use Rattle.std.specs.List.{range_with_len}
use Rattle.std.proofs.lemmas.List.{ext_get_or, get_or-drop, get_or-map}
use Rattle.std.proofs.lemmas.List.FromFn.{get_or-map-range_with_len, length-map-range_with_len}
use Rattle.std.proofs.lemmas.Simd.{Each1-get_or, get_or-zip2, length-zip2, zip2-map, zip2_splat}
use Rattle.std.proofs.lemmas.Nat.{xor_lt}
use Rattle.std.specs.Int.{Width, rotate_right}
use Rattle.words.specs.inside.Lanes.{word_at, lane8, transposed8}
use Rattle.words.specs.Words.{words}

-- what holds of both halves
pub below_two : (P : ℕ → Type 0) → P 0 → P 1 → (i : ℕ) → i < 2 → P i
below_two P p0 p1 i h = grind (arith, common_steps)

-- what holds of each of the eight lanes
pub below_eight : (P : ℕ → Type 0) → P 0 → P 1 → P 2 → P 3 → P 4 → P 5 → P 6 → P 7 → (i : ℕ) → i < 8 → P i
below_eight P p0 p1 p2 p3 p4 p5 p6 p7 i h = grind (arith, common_steps)

-- a list, word by word
pub listed : (n : ℕ) (xs : List ℕ) → length xs ≡ n → xs ≡ map (slice_index xs) (range_with_len 0 n)
listed n xs h = ext_get_or 0 xs (map (slice_index xs) (range_with_len 0 n))
    (h ∙ sym (length-map-range_with_len (slice_index xs) 0 n))
    (λ i l. sym (get_or-map-range_with_len (slice_index xs) 0 n i i 0 (omega arith) (omega arith)))

-- two shifts joined turn each word of n lanes, where they turn one word of so many bits
pub shifts_rotate : (w : Width) (bits r n : ℕ)
    → ((z : ℕ) → bit_or (z / 2 ^ r) (z * 2 ^ (bits - r) % 2 ^ bits) ≡ rotate_right w z r)
    → (x : List ℕ) → length x ≡ n → (y : List ℕ) → length y ≡ n → (j : ℕ) → j < n
    → slice_index (zip2 bit_or (zip2 (λ z k. z / 2 ^ k) (zip2 bit_xor x y) (replicate n r))
    (zip2 (λ z k. z * 2 ^ k % 2 ^ bits) (zip2 bit_xor x y) (replicate n (bits - r)))) j
    ≡ rotate_right w (bit_xor (slice_index x j) (slice_index y j)) r
shifts_rotate w bits r n turns x lx y ly j h =
    let z : List ℕ = zip2 bit_xor x y in
    let same : length x ≡ length y = omega arith in
    let size : length z ≡ length x = length-zip2 bit_xor x y same in
    rw (
      zip2_splat (λ (v k : ℕ). v / 2 ^ k) z n r (omega arith),
      zip2_splat (λ (v k : ℕ). v * 2 ^ k % 2 ^ bits) z n (bits - r) (omega arith),
      zip2-map bit_or (λ (v : ℕ). v / 2 ^ r) (λ (v : ℕ). v * 2 ^ (bits - r) % 2 ^ bits) z,
      get_or-map (λ (v : ℕ). bit_or (v / 2 ^ r) (v * 2 ^ (bits - r) % 2 ^ bits)) z j 0 0 (omega arith),
      get_or-zip2 bit_xor x y j 0 0 0 (omega arith) (omega arith),
    )
    (turns (bit_xor (slice_index x j) (slice_index y j)))

pub row_of : (r x : List (List ℕ)) → r ≡ transposed8 x → (i : ℕ) → i < 8
    → slice_index_or (slice_index_or r 0 [] ∷ slice_index_or r 1 [] ∷ slice_index_or r 2 [] ∷ slice_index_or r 3 []
    ∷ slice_index_or r 4 [] ∷ slice_index_or r 5 [] ∷ slice_index_or r 6 [] ∷ slice_index_or r 7 [] ∷ []) i []
    ≡ lane8 i x
row_of r x e = grind (arith, below_eight)

-- the words of x xor y fit, in n lanes of so many bits
pub xors_fit : (bits n : ℕ) (x : List ℕ) → length x ≡ n → (y : List ℕ) → length y ≡ n → Each1 (λ v. v < 2 ^ bits) x
    → Each1 (λ v. v < 2 ^ bits) y → (i : ℕ) → i < n → slice_index (zip2 bit_xor x y) i < 2 ^ bits
xors_fit bits n x lx y ly fx fy i h =
    rw (get_or-zip2 bit_xor x y i 0 0 0 (omega arith) (omega arith))
    (xor_lt bits _ _ (Each1-get_or (λ v. v < 2 ^ bits) x i 0 (omega arith) fx)
    (Each1-get_or (λ v. v < 2 ^ bits) y i 0 (omega arith) fy))

-- what holds of each number below four
pub below_four : (P : ℕ → Type 0) → P 0 → P 1 → P 2 → P 3 → (i : ℕ) → i < 4 → P i
below_four P p0 p1 p2 p3 i h = grind (arith, common_steps)

-- what holds of four lanes and of the four behind them
pub by_fours : (P : ℕ → Type 0) → ((i : ℕ) → i < 4 → P i) → ((i : ℕ) → i < 4 → P (4 + i)) → (i : ℕ) → i < 8 → P i
by_fours P low high = grind (arith, common_steps, below_eight)

-- four bytes as a word
pub le_word : (x : List ℕ) (at p q r s : ℕ) → p ≡ at → q ≡ at + 1 → r ≡ at + 2 → s ≡ at + 3
    → slice_index x p + 256 * (slice_index x q + 256 * (slice_index x r + 256 * (slice_index x s + 256 * 0)))
    ≡ word_at x at
le_word x at p q r s hp hq hr hs = grind (arith, common_steps, get_or-drop)

-- four words of sixteen bytes, which stand in x from `at` on
pub words_loaded : (x l : List ℕ) (at : ℕ) → ((n : ℕ) → n < 16 → slice_index l n ≡ slice_index x (at + n))
    → (n : ℕ) → n < 4
    → slice_index l (4 * n) + 256 * (slice_index l (4 * n + 1) + 256 *
    (slice_index l (4 * n + 2) + 256 * (slice_index l (4 * n + 3) + 256 * 0))) ≡ word_at x (at + 4 * n)
words_loaded x l at loaded n h =
    rw (
      loaded (4 * n) (omega arith),
      loaded (4 * n + 1) (omega arith),
      loaded (4 * n + 2) (omega arith),
      loaded (4 * n + 3) (omega arith),
    )
    (le_word x (at + 4 * n) _ _ _ _ (omega arith) (omega arith) (omega arith) (omega arith))

-- the words of a block, four at a time
pub block_read : (b y : List ℕ) (f g h k : ℕ → ℕ) → ((n : ℕ) → n < 4 → f n ≡ word_at b (0 + 4 * n))
    → ((n : ℕ) → n < 4 → g n ≡ word_at b (16 + 4 * n)) → ((n : ℕ) → n < 4 → h n ≡ word_at b (32 + 4 * n))
    → ((n : ℕ) → n < 4 → k n ≡ word_at b (48 + 4 * n)) → b ≡ y
    → f 0 ∷ f 1 ∷ f 2 ∷ f 3 ∷ g 0 ∷ g 1 ∷ g 2 ∷ g 3 ∷ h 0 ∷ h 1 ∷ h 2 ∷ h 3 ∷ k 0 ∷ k 1 ∷ k 2 ∷ k 3 ∷ [] ≡ words 4 16 y
unfolding words
block_read b y f g h k first second third fourth same = grind (arith)
