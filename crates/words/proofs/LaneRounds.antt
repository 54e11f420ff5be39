-- Rounds in one lane of vectors.
use Rattle.std.proofs.lemmas.Grind.{common_steps}
use Rattle.std.proofs.Common.{◌≡◌, ℕ, zero, suc, ◌<◌, List, [], ◌∷◌, bit_xor, refl, arith, slice_index}
use Rattle.std.proofs.Common.{map, get_or, ap, ◌∙◌, ◌+◌, length}
use Rattle.std.proofs.lemmas.List.{get_or-map}
use Rattle.words.proofs.FourWords.{round_by_rows}
use Rattle.words.proofs.LaneLemmas.{below_four}
use Rattle.words.specs.Blake2.{folded_halves}
use Rattle.words.specs.Mix.{Variant, g, round}
use Rattle.words.specs.inside.Lanes.{lane, lane_at}

-- word j of a lane
lane_word : (i : ℕ) (m : List (List ℕ)) (j : ℕ) → j < 16 → slice_index (lane i m) j ≡ lane_at m j i
unfolding lane
lane_word i m zero h = refl
lane_word i m (suc zero) h = refl
lane_word i m (suc (suc zero)) h = refl
lane_word i m (suc (suc (suc zero))) h = refl
lane_word i m (suc (suc (suc (suc zero)))) h = refl
lane_word i m (suc (suc (suc (suc (suc zero))))) h = refl
lane_word i m (suc (suc (suc (suc (suc (suc zero)))))) h = refl
lane_word i m (suc (suc (suc (suc (suc (suc (suc zero))))))) h = refl
lane_word i m (suc (suc (suc (suc (suc (suc (suc (suc zero)))))))) h = refl
lane_word i m (suc (suc (suc (suc (suc (suc (suc (suc (suc zero))))))))) h = refl
lane_word i m (suc (suc (suc (suc (suc (suc (suc (suc (suc (suc zero)))))))))) h = refl
lane_word i m (suc (suc (suc (suc (suc (suc (suc (suc (suc (suc (suc zero))))))))))) h = refl
lane_word i m (suc (suc (suc (suc (suc (suc (suc (suc (suc (suc (suc (suc zero)))))))))))) h = refl
lane_word i m (suc (suc (suc (suc (suc (suc (suc (suc (suc (suc (suc (suc (suc zero))))))))))))) h = refl
lane_word i m (suc (suc (suc (suc (suc (suc (suc (suc (suc (suc (suc (suc (suc (suc zero)))))))))))))) h = refl
lane_word i m (suc (suc (suc (suc (suc (suc (suc (suc (suc (suc (suc (suc (suc (suc (suc zero))))))))))))))) h = refl
lane_word i m (suc (suc (suc (suc (suc (suc (suc (suc (suc (suc (suc (suc (suc (suc (suc (suc n)))))))))))))))) h =
    absurd (omega arith)

-- word k of a lane of an array of n vectors, and what was read from there
pub read : {A : Type 0} (words : A → List ℕ) (xs : List A) (n : ℕ) → length xs ≡ n → (k i : ℕ) (d : A) → k < n
    → lane_at (map words xs) k i ≡ slice_index (words (get_or xs k d)) i
read words xs n len k i d lt = ap (λ w. slice_index w i) (get_or-map words xs k d [] (omega arith))

pub picked : {A : Type 0} (words : A → List ℕ) (xs : List A) → length xs ≡ 16 → (i k : ℕ) (d : A) → k < 16
    → slice_index (lane i (map words xs)) k ≡ slice_index (words (get_or xs k d)) i
picked words xs len i k d lt = lane_word i (map words xs) k lt ∙ read words xs 16 len k i d lt

-- G on words that were read
pub mixed_words : {A : Type 0} (words : A → List ℕ) (m : List A) → length m ≡ 16 → (i x y : ℕ) (d e : A) → x < 16
    → y < 16 → (k : Variant) (w z : List ℕ)
    → z ≡ g k w (slice_index (words (get_or m x d)) i) (slice_index (words (get_or m y e)) i)
    → z ≡ g k w (slice_index (lane i (map words m)) x) (slice_index (lane i (map words m)) y)
mixed_words words m len i x y d e hx hy k w z same = grind (arith, common_steps, picked)

pub column_words : {A : Type 0} (words : A → List ℕ) (v : List A) → length v ≡ 16 → (i j : ℕ) (a b c d : A) → j < 4
    → (k : Variant) (x y : ℕ) (z : List ℕ)
    → z ≡ g k (slice_index (words (get_or v j a)) i ∷ slice_index (words (get_or v (j + 4) b)) i
    ∷ slice_index (words (get_or v (j + 8) c)) i ∷ slice_index (words (get_or v (j + 12) d)) i ∷ []) x y
    → z ≡ g k (slice_index (lane i (map words v)) j ∷ slice_index (lane i (map words v)) (j + 4)
    ∷ slice_index (lane i (map words v)) (j + 8) ∷ slice_index (lane i (map words v)) (j + 12) ∷ []) x y
column_words words v len i j a b c d h k x y z same = grind (arith, common_steps, picked)

-- a round: G down the columns, and then down the diagonals
pub round_by_columns : (k : Variant) (v m s : List ℕ) → length v ≡ 16
    → {a0 b0 c0 d0 a1 b1 c1 d1 a2 b2 c2 d2 a3 b3 c3 d3 : ℕ} {e0 f1 g2 h3 e1 f2 g3 h0 e2 f3 g0 h1 e3 f0 g1 h2 : ℕ}
    → let w : ℕ → ℕ = λ j. slice_index m (slice_index s j) in
    let x : ℕ → ℕ = slice_index v in
    a0 ∷ b0 ∷ c0 ∷ d0 ∷ [] ≡ g k (x 0 ∷ x 4 ∷ x 8 ∷ x 12 ∷ []) (w 0) (w 1)
    → a1 ∷ b1 ∷ c1 ∷ d1 ∷ [] ≡ g k (x 1 ∷ x 5 ∷ x 9 ∷ x 13 ∷ []) (w 2) (w 3)
    → a2 ∷ b2 ∷ c2 ∷ d2 ∷ [] ≡ g k (x 2 ∷ x 6 ∷ x 10 ∷ x 14 ∷ []) (w 4) (w 5)
    → a3 ∷ b3 ∷ c3 ∷ d3 ∷ [] ≡ g k (x 3 ∷ x 7 ∷ x 11 ∷ x 15 ∷ []) (w 6) (w 7)
    → e0 ∷ f1 ∷ g2 ∷ h3 ∷ [] ≡ g k (a0 ∷ b1 ∷ c2 ∷ d3 ∷ []) (w 8) (w 9)
    → e1 ∷ f2 ∷ g3 ∷ h0 ∷ [] ≡ g k (a1 ∷ b2 ∷ c3 ∷ d0 ∷ []) (w 10) (w 11)
    → e2 ∷ f3 ∷ g0 ∷ h1 ∷ [] ≡ g k (a2 ∷ b3 ∷ c0 ∷ d1 ∷ []) (w 12) (w 13)
    → e3 ∷ f0 ∷ g1 ∷ h2 ∷ [] ≡ g k (a3 ∷ b0 ∷ c1 ∷ d2 ∷ []) (w 14) (w 15)
    → e0 ∷ e1 ∷ e2 ∷ e3 ∷ f0 ∷ f1 ∷ f2 ∷ f3 ∷ g0 ∷ g1 ∷ g2 ∷ g3 ∷ h0 ∷ h1 ∷ h2 ∷ h3 ∷ [] ≡ round k v m s
round_by_columns k v m s len {a0} {b0} {c0} {d0} {a1} {b1} {c1} {d1} {a2} {b2} {c2} {d2} {a3} {b3} {c3} {d3}
    {e0} {f1} {g2} {h3} {e1} {f2} {g3} {h0} {e2} {f3} {g0} {h1} {e3} {f0} {g1} {h2} p0 p1 p2 p3 q0 q1 q2 q3 =
    round_by_rows k v m s ((a0 ∷ a1 ∷ a2 ∷ a3 ∷ []) ∷ (b0 ∷ b1 ∷ b2 ∷ b3 ∷ []) ∷ (c0 ∷ c1 ∷ c2 ∷ c3 ∷ [])
    ∷ (d0 ∷ d1 ∷ d2 ∷ d3 ∷ []) ∷ []) ((e3 ∷ e0 ∷ e1 ∷ e2 ∷ []) ∷ (f0 ∷ f1 ∷ f2 ∷ f3 ∷ []) ∷ (g1 ∷ g2 ∷ g3 ∷ g0 ∷ [])
    ∷ (h2 ∷ h3 ∷ h0 ∷ h1 ∷ []) ∷ []) len (below_four _ p0 p1 p2 p3) (below_four _ q3 q0 q1 q2)

-- words of two vectors of an array, xored
pub xored : {A : Type 0} (words : A → List ℕ) (xs : List A) → length xs ≡ 16 → (i j k : ℕ) (d e : A) (x : ℕ) → j < 16
    → k < 16 → x ≡ bit_xor (slice_index (words (get_or xs j d)) i) (slice_index (words (get_or xs k e)) i)
    → x ≡ bit_xor (slice_index (lane i (map words xs)) j) (slice_index (lane i (map words xs)) k)
xored words xs len i j k d e x hj hk same = grind (arith, common_steps, picked)

-- the same with the word of a vector of another array
pub xored_in : {A : Type 0} (words : A → List ℕ) (h xs : List A) → length h ≡ 8 → length xs ≡ 16 → (i j : ℕ)
    (c d e : A) (x y : ℕ) → j < 8
    → x ≡ bit_xor (slice_index (words (get_or h j c)) i) (slice_index (words (get_or xs j d)) i)
    → y ≡ bit_xor x (slice_index (words (get_or xs (j + 8) e)) i)
    → y ≡ bit_xor (bit_xor (lane_at (map words h) j i) (slice_index (lane i (map words xs)) j))
    (slice_index (lane i (map words xs)) (j + 8))
xored_in words h xs lh lx i j c d e x y hj ex ey = grind (arith, common_steps, read, picked, bit_xor, slice_index, get_or)

-- the chaining value, with the halves of v xored in
pub folded_in : (x v : List ℕ) {a b c d e f g h : ℕ}
    → a ≡ bit_xor (bit_xor (slice_index x 0) (slice_index v 0)) (slice_index v 8)
    → b ≡ bit_xor (bit_xor (slice_index x 1) (slice_index v 1)) (slice_index v 9)
    → c ≡ bit_xor (bit_xor (slice_index x 2) (slice_index v 2)) (slice_index v 10)
    → d ≡ bit_xor (bit_xor (slice_index x 3) (slice_index v 3)) (slice_index v 11)
    → e ≡ bit_xor (bit_xor (slice_index x 4) (slice_index v 4)) (slice_index v 12)
    → f ≡ bit_xor (bit_xor (slice_index x 5) (slice_index v 5)) (slice_index v 13)
    → g ≡ bit_xor (bit_xor (slice_index x 6) (slice_index v 6)) (slice_index v 14)
    → h ≡ bit_xor (bit_xor (slice_index x 7) (slice_index v 7)) (slice_index v 15)
    → a ∷ b ∷ c ∷ d ∷ e ∷ f ∷ g ∷ h ∷ [] ≡ folded_halves x v
folded_in x v ea eb ec ed ee ef eg eh = rw (ea, eb, ec, ed, ee, ef, eg, eh) refl
