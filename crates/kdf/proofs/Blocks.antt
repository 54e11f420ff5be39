-- Output keying material, written block by block: so far it is the beginning of all the blocks.
use Rattle.std.proofs.lemmas.Grind.{common_steps}
use Rattle.std.proofs.Common.{◌≡◌, ℕ, zero, suc, ◌+◌, ◌-◌, ◌*◌, ◌<◌, ◌≤◌, min, List, [], ◌∷◌, ◌++◌, length, take, arith}
use Rattle.std.proofs.Common.{refl, sym, ◌∙◌, ap, length-append, add-zero, add-suc}
use Rattle.std.proofs.Math.Nat.{suc-mul, zero-mul, lt_of_mul-lt-mul_right}
use Rattle.std.proofs.Math.Seq.{take-append-add}
use Rattle.std.proofs.lemmas.List.{take-append-le, take_all}
use Rattle.kdf.specs.Hkdf.{expand_block, expand_blocks}

-- so many bytes of out are written, from so many blocks of size bytes, of which block is the last
pub record Written (prf : List ℕ → List ℕ) (info : List ℕ) (size : ℕ) (out : List ℕ) (filled counter : ℕ)
    (block : List ℕ) : Type 0 where
  pub counted : counter ≤ 255
  pub blocks : length (expand_blocks prf info counter) ≡ counter * size
  pub place : filled ≡ min (counter * size) (length out)
  pub made : take filled out ≡ take filled (expand_blocks prf info counter)
  pub last : block ≡ expand_block prf info counter
  pub short : length block ≤ size

module _ (prf : List ℕ → List ℕ) (info : List ℕ) where
  -- more blocks are no shorter
  pub length-expand_blocks : (n more : ℕ)
      → length (expand_blocks prf info n) ≤ length (expand_blocks prf info (n + more))
  unfolding expand_blocks
  length-expand_blocks n zero = rw add-zero (omega arith)
  length-expand_blocks n (suc more) =
      let longer = length-expand_blocks n more in
      let both = length-append (expand_blocks prf info (n + more)) (expand_block prf info (suc (n + more))) in
      rw add-suc (omega arith)

  -- more blocks begin with the same bytes
  pub take-expand_blocks : (wanted n more : ℕ) → wanted ≤ length (expand_blocks prf info n)
      → take wanted (expand_blocks prf info (n + more)) ≡ take wanted (expand_blocks prf info n)
  unfolding expand_blocks
  take-expand_blocks wanted n zero fits = rw add-zero refl
  take-expand_blocks wanted n (suc more) fits =
      let longer = length-expand_blocks n more in
      let fits' : wanted ≤ length (expand_blocks prf info (n + more)) = omega arith in
      rw add-suc (take-append-le wanted (expand_blocks prf info (n + more)) _ fits'
      ∙ take-expand_blocks wanted n more fits)

  -- at first nothing is written
  pub written_none : (size : ℕ) (out : List ℕ) → Written prf info size out 0 0 []
  unfolding expand_blocks expand_block
  written_none size out = grind (arith, common_steps, zero-mul)

  module _ (size : ℕ) (out : List ℕ) (filled counter : ℕ) (block : List ℕ)
      (w : Written prf info size out filled counter block) where
    -- where not all is written, all blocks so far are, and there is a number for one more
    pub written_next : filled < length out → length out ≤ 255 * size → counter < 255
    written_next more fits = grind (arith, common_steps, lt_of_mul-lt-mul_right)

    -- one more block
    pub written_more : (after next : List ℕ) (taken : ℕ) → filled < length out → length out ≤ 255 * size
        → next ≡ prf (block ++ info ++ suc counter ∷ []) → length next ≡ size → taken ≡ min size (length out - filled)
        → length after ≡ length out → take (filled + taken) after ≡ take filled out ++ take taken next
        → Written prf info size after (filled + taken) (suc counter) next
    unfolding expand_blocks expand_block
    written_more after next taken more fits made whole count same written = grind (arith, common_steps, length-append, suc-mul, take_all, written_next, take-append-add)

    -- at last all is written
    pub written_all : length out ≤ filled → out ≡ take (length out) (expand_blocks prf info 255)
    written_all all =
        let counted = w.counted in
        let lengths = w.blocks in
        let place = w.place in
        let end : filled ≡ length out = omega arith in
        let fits : length out ≤ length (expand_blocks prf info counter) = omega arith in
        let more : counter + (255 - counter) ≡ 255 = omega arith in
        sym (take_all filled out all) ∙ w.made ∙ ap (λ n. take n (expand_blocks prf info counter)) end
        ∙ sym (take-expand_blocks (length out) counter (255 - counter) fits)
        ∙ ap (λ n. take (length out) (expand_blocks prf info n)) more
