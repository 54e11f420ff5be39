-- Sums of words below m in another order than the standard's.
use Rattle.std.proofs.lemmas.Grind.{common_steps}
use Rattle.std.proofs.Common.{◌≡◌, ℕ, ◌+◌, ◌%◌, List, [], ◌∷◌, slice_index, arith, ap}
use Rattle.std.proofs.Math.Nat.{add-mod-mod, mod-add-mod}

-- a word of the schedule
pub word_around : (m a b c d : ℕ) → (((a + b) % m + c) % m + d) % m ≡ (((d + b) % m + c) % m + a) % m
word_around m a b c d = simp mod-add-mod (ap (λ (z : ℕ). z % m) (omega arith))

keyed_first : (m k w h c s : ℕ) → ((((k + w) % m + h) % m + c) % m + s) % m
    ≡ ((((h + s) % m + c) % m + k) % m + w) % m
keyed_first m k w h c s = simp mod-add-mod (ap (λ (z : ℕ). z % m) (omega arith))

d_before_sigma : (m k w h c s d : ℕ) → (((((k + w) % m + h) % m + c) % m + d) % m + s) % m
    ≡ (d + ((((h + s) % m + c) % m + k) % m + w) % m) % m
d_before_sigma m k w h c s d = simp (mod-add-mod, add-mod-mod) (ap (λ (z : ℕ). z % m) (omega arith))

-- a round whose constant and word are added first: c, s, z and j are its Ch, Σ 1, Σ 0 and Maj
pub round_keyed : (m : ℕ) (v : List ℕ) (k w key c s z j : ℕ) → key ≡ (k + w) % m
    → let t1 : ℕ = ((((slice_index v 7 + s) % m + c) % m + k) % m + w) % m in
    ((((key + slice_index v 7) % m + c) % m + s) % m + (z + j) % m) % m
    ∷ slice_index v 0 ∷ slice_index v 1 ∷ slice_index v 2
    ∷ ((((key + slice_index v 7) % m + c) % m + slice_index v 3) % m + s) % m
    ∷ slice_index v 4 ∷ slice_index v 5 ∷ slice_index v 6 ∷ []
    ≡ (t1 + (z + j) % m) % m ∷ slice_index v 0 ∷ slice_index v 1 ∷ slice_index v 2
    ∷ (slice_index v 3 + t1) % m ∷ slice_index v 4 ∷ slice_index v 5 ∷ slice_index v 6 ∷ []
round_keyed m v k w key c s z j keyed = grind (arith, common_steps, slice_index, keyed_first, d_before_sigma)
