-- SHA-2 in lanes: what an operation on vectors does to the word in each lane.
use Rattle.std.proofs.Common.{◌≡◌, ℕ, ◌<◌, ◌+◌, ◌*◌, ◌^◌, List, length, slice_index, bit_and, bit_xor, arith}
use Rattle.std.proofs.Common.{[], ◌∙◌, w8, take, drop, get_or, refl, ap, inl, inr, slice_set, subst}
use Rattle.std.specs.Int.{Width, bit_not}
use Rattle.std.specs.Simd.Lanes.{zip2, Each1}
use Rattle.std.proofs.lemmas.Simd.{Each1-get_or, below_from_Fits, get_or-zip2, length-zip2}
use Rattle.words.specs.Words.{words}
use Rattle.words.specs.inside.Lanes.{lane, lane_at, word_at as little_at}
use Rattle.words.proofs.LaneLemmas.{le_word}
use Rattle.std.proofs.lemmas.Bool.{cases_lt}
use Rattle.std.proofs.lemmas.List.{get_or-take, get_or-drop, length-take, get_or_past}
use Rattle.sha2.specs.Sha256.{maj, word_at}
use Rattle.sha_blocks.proofs.Lanes.{below_sixteen}
use Rattle.sha_blocks.proofs.Rounds.{filled_more}
use Rattle.pieces.specs.inside.Rounds.{HasWords, IsAfterRounds}
use Rattle.sha2.specs.Sha512.{word_at as long_at}
use Rattle.byteorder.specs.Endian.{little_number}
use Rattle.pieces.specs.inside.Words.{reversed, reversed_long}
use Rattle.pieces.proofs.LongWords.{le_word as long_word}
use Rattle.sha_blocks.proofs.ChoiceMajority.{choice_short, majority_short}
use mir.Val.{Fits, bits}

-- Ch in fewer operations
pub choice_lane : (w : Width) (n : ℕ) (x y z : List ℕ) → length x ≡ n → Each1 (Fits w) x → length y ≡ n
    → Each1 (Fits w) y → length z ≡ n → Each1 (Fits w) z → (i : ℕ) → i < n
    → slice_index (zip2 bit_xor z (zip2 bit_and x (zip2 bit_xor y z))) i
    ≡ bit_xor (bit_and (slice_index x i) (slice_index y i)) (bit_and (bit_not w (slice_index x i)) (slice_index z i))
choice_lane w n x y z lx fx ly fy lz fz i h =
    let inner : List ℕ = zip2 bit_xor y z in
    let l1 : length inner ≡ n = length-zip2 bit_xor y z (omega arith) ∙ ly in
    let l2 : length (zip2 bit_and x inner) ≡ n = length-zip2 bit_and x inner (omega arith) ∙ lx in
    let below : (l : List ℕ) → length l ≡ n → Each1 (Fits w) l → slice_index l i < 2 ^ bits w =
    λ l len fits. Each1-get_or (λ a. a < 2 ^ bits w) l i 0 (omega arith) (below_from_Fits w l fits) in
    rw (
      get_or-zip2 bit_xor z (zip2 bit_and x inner) i 0 0 0 (omega arith) (omega arith),
      get_or-zip2 bit_and x inner i 0 0 0 (omega arith) (omega arith),
      get_or-zip2 bit_xor y z i 0 0 0 (omega arith) (omega arith),
    )
    (choice_short w _ _ _ (below x lx fx) (below y ly fy) (below z lz fz))

-- Maj in fewer operations
pub majority_lane : (n : ℕ) (x y z : List ℕ) → length x ≡ n → length y ≡ n → length z ≡ n → (i : ℕ) → i < n
    → slice_index (zip2 bit_xor y (zip2 bit_and (zip2 bit_xor x y) (zip2 bit_xor y z))) i
    ≡ maj (slice_index x i) (slice_index y i) (slice_index z i)
majority_lane n x y z lx ly lz i h =
    let u : List ℕ = zip2 bit_xor x y in
    let v : List ℕ = zip2 bit_xor y z in
    let lu : length u ≡ n = length-zip2 bit_xor x y (omega arith) ∙ lx in
    let lv : length v ≡ n = length-zip2 bit_xor y z (omega arith) ∙ ly in
    let lw : length (zip2 bit_and u v) ≡ n = length-zip2 bit_and u v (omega arith) ∙ lu in
    rw (
      get_or-zip2 bit_xor y (zip2 bit_and u v) i 0 0 0 (omega arith) (omega arith),
      get_or-zip2 bit_and u v i 0 0 0 (omega arith) (omega arith),
      get_or-zip2 bit_xor x y i 0 0 0 (omega arith) (omega arith),
      get_or-zip2 bit_xor y z i 0 0 0 (omega arith) (omega arith),
    )
    (majority_short (slice_index x i) (slice_index y i) (slice_index z i))

-- what stands at a count that is spelled another way
pub at_count : (f : ℕ → List ℕ) (m n : ℕ) (v : List ℕ) → m ≡ n → v ≡ f m → v ≡ f n
at_count f m n v same made = made ∙ ap f same

-- the same of rounds with the words ahead of them
pub rounds_at : (after : ℕ → List ℕ) (ws : List ℕ) (i : ℕ) (w : List (List ℕ)) (m n : ℕ) (v : List (List ℕ)) → m ≡ n
    → IsAfterRounds after ws m i v w → IsAfterRounds after ws n i v w
rounds_at after ws i w m n v e at = subst (λ k. IsAfterRounds after ws k i v w) e at

-- one word of a schedule more
pub HasWords_more : (ws : List ℕ) (n i : ℕ) (w : List (List ℕ)) (x : List ℕ) → n < length w → HasWords ws n i w
    → slice_index x i ≡ slice_index ws n → HasWords ws (n + 1) i (slice_set w n x)
HasWords_more ws n i w x fits before word =
    filled_more (λ k x. slice_index x i ≡ slice_index ws k) w n x [] fits before word

-- ---- words whose highest byte comes first

-- what is cut off from bytes is bytes
pub piece_bytes : (n at : ℕ) (x : List ℕ) → ((j : ℕ) → Fits w8 (get_or x j 0)) → (j : ℕ)
    → slice_index (take n (drop at x)) j < 256
piece_bytes n at x small j = elim (cases_lt j n) [
  | inl lt ↦
      let byte = small (at + j) in
      rw (get_or-take n (drop at x) j 0 lt, get_or-drop at x j 0) (omega arith)
  | inr ge ↦
      rw (get_or_past (take n (drop at x)) j 0 (omega (arith, length-take n (drop at x)))) (omega arith)
]

-- a word read the other way round
word_reversed : (b : List ℕ) (at : ℕ) → ((j : ℕ) → slice_index b j < 256) → reversed (little_at b at) ≡ word_at b at
word_reversed b at small =
    let s0 = small at in
    let s1 = small (at + 1) in
    let s2 = small (at + 2) in
    let s3 = small (at + 3) in
    rw (← le_word b at at (at + 1) (at + 2) (at + 3) refl refl refl refl) (omega arith)

lane_word : (n : ℕ) (m : List (List ℕ)) (i : ℕ) (b : List ℕ) → lane i m ≡ words n 16 b → (k : ℕ) → k < 16
    → lane_at m k i ≡ little_number n (drop (n * k) b)
unfolding lane words
lane_word n m i b same =
    let at : (k : ℕ) → slice_index (lane i m) k ≡ slice_index (words n 16 b) k =
    λ k. ap (λ xs. slice_index xs k) same in
    below_sixteen _ (at 0) (at 1) (at 2) (at 3) (at 4) (at 5) (at 6) (at 7)
    (at 8) (at 9) (at 10) (at 11) (at 12) (at 13) (at 14) (at 15)

pub word_turned : (m : List (List ℕ)) (i : ℕ) (b : List ℕ) → ((j : ℕ) → slice_index b j < 256)
    → lane i m ≡ words 4 16 b → (k : ℕ) → k < 16 → (x : ℕ) → x ≡ reversed (lane_at m k i) → x ≡ word_at b (4 * k)
word_turned m i b small same k below x is =
    is ∙ ap reversed (lane_word 4 m i b same k below) ∙ word_reversed b (4 * k) small

-- the same of words of eight bytes
long_word_reversed : (b : List ℕ) (at : ℕ) → ((j : ℕ) → slice_index b j < 256)
    → reversed_long (little_number 8 (drop at b)) ≡ long_at b at
long_word_reversed b at small =
    let s0 = small at in
    let s1 = small (at + 1) in
    let s2 = small (at + 2) in
    let s3 = small (at + 3) in
    let s4 = small (at + 4) in
    let s5 = small (at + 5) in
    let s6 = small (at + 6) in
    let s7 = small (at + 7) in
    rw (← long_word b at at (at + 1) (at + 2) (at + 3) (at + 4) (at + 5) (at + 6) (at + 7) refl refl refl refl refl refl
    refl refl) (omega arith)

pub long_word_turned : (m : List (List ℕ)) (i : ℕ) (b : List ℕ) → ((j : ℕ) → slice_index b j < 256)
    → lane i m ≡ words 8 16 b → (k : ℕ) → k < 16 → (x : ℕ) → x ≡ reversed_long (lane_at m k i) → x ≡ long_at b (8 * k)
long_word_turned m i b small same k below x is =
    is ∙ ap reversed_long (lane_word 8 m i b same k below) ∙ long_word_reversed b (8 * k) small
