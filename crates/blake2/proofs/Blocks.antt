-- Counting and cutting blocks: how many come before the last, and whole blocks as chunks.
use Rattle.std.proofs.lemmas.Grind.{common_steps}
use Rattle.std.proofs.Common.{◌≡◌, ℕ, zero, suc, ◌+◌, ◌-◌, ◌*◌, ◌/◌, ◌<◌, ◌≤◌, List, length, take, drop, refl, ap}
use Rattle.std.proofs.Common.{◌∙◌, arith, length-drop, add-zero}
use Rattle.std.proofs.lemmas.List.{take_all}
use Rattle.std.proofs.lemmas.Nat.{div-mul-add}
use Rattle.std.proofs.Math.Seq.{take-add}
use Rattle.std.proofs.Math.Nat.{lt-div-mul-add, add-mul-div_right}
use Rattle.std.specs.List.{concat}
use Rattle.std.specs.Simd.{first_chunks}
use Rattle.words.specs.Mix.{Variant}
use Rattle.blake2.specs.Blake2.{block_len, block_count}

-- chunks of n bytes, joined
pub concat_chunks : (n k : ℕ) (xs : List ℕ) → n * k ≤ length xs → concat (first_chunks n k xs) ≡ take (n * k) xs
concat_chunks n zero xs h = let z : n * 0 ≡ 0 = omega arith in rw z refl
concat_chunks n (suc k) xs h =
    let e : n * suc k ≡ n + n * k = omega arith in
    rw (e, take-add n (n * k) xs, concat_chunks n k (drop n xs) (omega (arith, length-drop n xs))) refl

-- the chunks of whole blocks, joined again
pub whole_chunks : (n q : ℕ) (xs : List ℕ) (bs : List (List ℕ)) → 0 < n → length xs ≡ q * n
    → bs ≡ first_chunks n (length xs / n) xs → concat bs ≡ xs
whole_chunks n q xs bs pos len e = grind (arith, common_steps, add-zero, div-mul-add, concat_chunks, take_all)

-- the bytes of whole blocks
pub chunks_len : (n q l k : ℕ) → 0 < n → l ≡ q * n → k ≡ l / n → n * k ≡ l
chunks_len n q l k pos len e = grind (arith, common_steps, add-zero, div-mul-add)

-- what whole blocks but the last leave is at most a block
pub tail_fits : (n l t whole : ℕ) → 0 < n → whole ≡ (l - 1) / n * n → t + whole ≡ l → t ≤ n
tail_fits n l t whole pos e sum = grind (arith, common_steps, lt-div-mul-add)

-- an input of n blocks and a last one of u bytes has n blocks before the last
pub last_block : (n u w l : ℕ) → l ≡ n * w + u → u ≤ w → 0 < w → (0 < n → 0 < u) → (l - 1) / w ≡ n
last_block n u w l e le pos back = grind (arith, common_steps, div-mul-add)

-- the rounded-up quotient, by the blocks before the last
pub block_count_is : (n w : ℕ) → 0 < w → 0 < n → (n + (w - 1)) / w ≡ (n - 1) / w + 1
block_count_is n w pos some = grind (arith, common_steps, add-mul-div_right)

zero_div : (w : ℕ) → 0 < w → 0 / w ≡ 0
zero_div w pos = let z : 0 ≡ 0 * w + 0 = omega arith in ap (λ (x : ℕ). x / w) z ∙ div-mul-add 0 w 0 pos

-- the blocks before the last
pub before_last : (k : Variant) (n : ℕ) → 0 < block_len k → block_count k n - 1 ≡ (n - 1) / block_len k
unfolding block_count
before_last k n pos = grind (arith, common_steps, zero_div, block_count_is)

-- a count of blocks at an equal block length
pub same_scale : (c b n m : ℕ) → n ≡ b → c + b ≡ b * m → c + n ≡ n * m
same_scale c b n m w e = rw w e

-- the count after l more blocks
pub after_blocks : (c b n m l t : ℕ) → n ≡ b → c + b ≡ b * m → t ≡ c + n + n * l → t ≡ (m + l) * b
after_blocks c b n m l t w e et = rw (et, w, e) (omega arith)
