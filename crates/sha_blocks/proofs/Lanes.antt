-- What an operation on vectors does to the word in each lane.
use Rattle.std.proofs.lemmas.Grind.{common_steps}
use Rattle.std.proofs.Common.{◌≡◌, ℕ, ◌<◌, ◌-◌, ◌*◌, ◌/◌, ◌%◌, ◌^◌, List, length, slice_index}
use Rattle.std.proofs.Common.{bit_or, bit_xor, arith, refl, replicate, ◌∙◌}
use Rattle.std.specs.Int.{Width, rotate_right}
use Rattle.std.specs.Simd.Lanes.{zip2}
use Rattle.std.proofs.lemmas.Bool.{cases_lt}
use Rattle.std.proofs.lemmas.Simd.{get_or-zip2, length-zip2, zip2-map, zip2_splat}
use Rattle.std.proofs.lemmas.List.{get_or-map}
use Rattle.std.proofs.Math.Nat.{mod-eq_of_lt}
use Rattle.words.proofs.LaneLemmas.{below_eight}
use mir.Val.{bits}

-- what holds of each number below sixteen
pub below_sixteen : (P : ℕ → Type 0) → P 0 → P 1 → P 2 → P 3 → P 4 → P 5 → P 6 → P 7
    → P 8 → P 9 → P 10 → P 11 → P 12 → P 13 → P 14 → P 15 → (i : ℕ) → i < 16 → P i
below_sixteen P p0 p1 p2 p3 p4 p5 p6 p7 p8 p9 p10 p11 p12 p13 p14 p15 i h = grind (arith, common_steps, cases_lt, below_eight)

-- two shifts joined rotate each word of n lanes
pub rotated_lane : (w : Width) (n r i : ℕ) (x : List ℕ) → length x ≡ n → 0 < r → r < bits w → i < n
    → slice_index (zip2 bit_or (zip2 (λ (z k : ℕ). z / 2 ^ k) x (replicate n r))
    (zip2 (λ (z k : ℕ). z * 2 ^ k % 2 ^ bits w) x (replicate n (bits w - r)))) i
    ≡ rotate_right w (slice_index x i) r
rotated_lane w n r i x len low high h = grind (arith, common_steps, mod-eq_of_lt, zip2_splat, zip2-map, bit_or, get_or-map)

-- a shift of each word
pub shifted_lane : (n r i : ℕ) (x : List ℕ) → length x ≡ n → i < n
    → slice_index (zip2 (λ (z k : ℕ). z / 2 ^ k) x (replicate n r)) i ≡ slice_index x i / 2 ^ r
shifted_lane n r i x len h = grind (arith, common_steps, zip2_splat, get_or-map)

-- three words, xored
pub xor_lane : (n : ℕ) (x y z : List ℕ) → length x ≡ n → length y ≡ n → length z ≡ n → (i : ℕ) → i < n
    → slice_index (zip2 bit_xor (zip2 bit_xor x y) z) i
    ≡ bit_xor (bit_xor (slice_index x i) (slice_index y i)) (slice_index z i)
xor_lane n x y z lx ly lz i h =
    let u : List ℕ = zip2 bit_xor x y in
    let lu : length u ≡ n = length-zip2 bit_xor x y (omega arith) ∙ lx in
    rw (
      get_or-zip2 bit_xor u z i 0 0 0 (omega arith) (omega arith),
      get_or-zip2 bit_xor x y i 0 0 0 (omega arith) (omega arith),
    ) refl
