-- Blocks of chunks that lie one after the other, taken side by side.
use Rattle.std.proofs.lemmas.Grind.{common_steps}
use Rattle.std.proofs.Common.{◌≡◌, ℕ, ◌+◌, ◌-◌, ◌*◌, ◌<◌, ◌≤◌, List, length, take, drop, refl}
use Rattle.std.proofs.Common.{sym, ap, ◌∙◌, arith, append-nil, length-drop, length-take-le, add-one}
use Rattle.std.proofs.lemmas.List.{take-take, drop-take, drop-drop}
use Rattle.words.specs.Blake3.{compress3}
use Rattle.words.specs.Words.{words}
use Rattle.b3.specs.Node.{cv}
use Rattle.b3.specs.Chunk.{chunk, value_before, block, block_words, last_block, start_flag}
use Rattle.b3.specs.inside.Runs.{run_cv, value_before_last}
use Rattle.b3.proofs.Folding.{run_chunk}

-- a chunk that is whole
pub chunk_full : (x : List ℕ) (k : ℕ) → 1024 * k + 1024 ≤ length x → length (take 1024 (drop (1024 * k) x)) ≡ 1024
chunk_full x k h = length-take-le 1024 (drop (1024 * k) x) (omega (arith, length-drop (1024 * k) x))

-- a block of a chunk within the bytes
pub block_at : (x : List ℕ) (i j : ℕ) → j < 16
    → block (take 1024 (drop (1024 * i) x)) j ≡ take 64 (drop (1024 * i + 64 * j) x)
block_at x i j h =
    let size : 1024 ≡ 64 * j + (1024 - 64 * j) = omega arith in
    let d : List ℕ = drop (1024 * i) x in
    let tail : drop (64 * j) (take 1024 d) ≡ take (1024 - 64 * j) (drop (64 * j) d)
    = ap (λ (n : ℕ). drop (64 * j) (take n d)) size ∙ drop-take (64 * j) (1024 - 64 * j) d in
    ap (λ (ys : List ℕ). take 64 ys) tail ∙ take-take 64 (1024 - 64 * j) (drop (64 * j) d) (omega arith)
    ∙ ap (λ (ys : List ℕ). take 64 ys) (drop-drop (64 * j) (1024 * i) x)

pub block_words_full : (x : List ℕ) → length x ≡ 64 → block_words x ≡ words 4 16 x
unfolding block_words
block_words_full x h = grind (arith, common_steps, append-nil)

-- the words that a lane reads
pub lane_block : (x b : List ℕ) (i j : ℕ) → 1024 * i + 1024 ≤ length x → j < 16
    → b ≡ take 64 (drop (1024 * i + 64 * j) x)
    → words 4 16 b ≡ block_words (block (take 1024 (drop (1024 * i) x)) j)
lane_block x b i j w hj e =
    let here : b ≡ block (take 1024 (drop (1024 * i) x)) j = e ∙ sym (block_at x i j hj) in
    let size : length (take 64 (drop (1024 * i + 64 * j) x)) ≡ 64
    = length-take-le 64 (drop (1024 * i + 64 * j) x) (omega (arith, length-drop (1024 * i + 64 * j) x)) in
    sym (ap block_words (sym here) ∙ block_words_full b (ap length e ∙ size))

-- the flags of a block that is not the last of sixteen
pub flag_more : (flags j d : ℕ) → (j ≡ 0 → d ≡ flags + 1) → (0 < j → j < 15 → d ≡ flags) → j < 15
    → d ≡ flags + start_flag j
flag_more flags j d first later h = grind (arith, common_steps)

-- one block more of a chunk of 1024 bytes
pub value_more : (key : List ℕ) (flags c d : ℕ) (x : List ℕ) (j : ℕ) → length x ≡ 1024 → j < 15
    → d ≡ flags + start_flag j
    → take 8 (compress3 (value_before key flags c x j) (block_words (block x j)) c 64 d) ≡ value_before key flags c x
    (j + 1)
unfolding value_before cv
value_more key flags c d x j len h e =
    let size : length (block x j) ≡ 64 = length-take-le 64 (drop (64 * j) x) (omega (arith, length-drop (64 * j) x)) in
    rw (add-one, size, e) refl

-- the last block of a chunk of 1024 bytes
pub value_last : (key : List ℕ) (flags c d : ℕ) (x : List ℕ) → length x ≡ 1024 → d ≡ flags + 2
    → take 8 (compress3 (value_before key flags c x 15) (block_words (block x 15)) c 64 d) ≡ cv (chunk key flags c x)
unfolding chunk cv
value_last key flags c d x len e =
    let last : last_block x ≡ 15 = omega arith in
    let size : length (block x 15) ≡ 64 = length-take-le 64 (drop 960 x) (omega (arith, length-drop 960 x)) in
    let none : flags + 0 ≡ flags = omega arith in
    rw (last, size, e, none) refl

-- one block more of chunk k, which is read at `at`
block_more : (key : List ℕ) (flags c d : ℕ) (x : List ℕ) (k j t at : ℕ) (value read next : List ℕ)
    → 1024 * k + 1024 ≤ length x → j < 16
    → value ≡ value_before key flags (c + k) (take 1024 (drop (1024 * k) x)) j
    → read ≡ words 4 16 (take 64 (drop at x)) → at ≡ 1024 * k + 64 * j → t ≡ c + k
    → next ≡ take 8 (compress3 value read t 64 d)
    → (j ≡ 0 → d ≡ flags + 1) → (0 < j → j < 15 → d ≡ flags) → (j ≡ 15 → d ≡ flags + 2)
    → (j + 1 < 16 → next ≡ value_before key flags (c + k) (take 1024 (drop (1024 * k) x)) (j + 1))
    × (j + 1 ≡ 16 → value ≡ value_before_last key flags c x k)
    × (j + 1 ≡ 16 → next ≡ run_cv key flags c x 0 k)
block_more key flags c d x k j t at value read next w h here words_at place number made first later last =
    let whole = words_at ∙ lane_block x (take 64 (drop at x)) k j w h (ap (λ (a : ℕ). take 64 (drop a x)) place) in (
      λ more. made ∙ rw (here, whole, number)
          (value_more key flags (c + k) d (take 1024 (drop (1024 * k) x)) j (chunk_full x k w) (omega arith)
          (flag_more flags j d first later (omega arith))),
      λ done.
          let end : j ≡ 15 = omega arith in
          here ∙ ap (λ (n : ℕ). value_before key flags (c + k) (take 1024 (drop (1024 * k) x)) n) end,
      λ done.
          let end : j ≡ 15 = omega arith in
          made ∙ rw (here, whole, number, end)
          (value_last key flags (c + k) d (take 1024 (drop (1024 * k) x)) (chunk_full x k w) (last end))
          ∙ sym (run_chunk key flags c x k (omega arith)),
    )

-- n chunks before block j: the values so far, and at the end those before the last block
abbrev pub AreAtBlock : List ℕ → ℕ → ℕ → List ℕ → ℕ → (ℕ → List ℕ) → (ℕ → List ℕ) → ℕ → Type 0
AreAtBlock key flags c x n values before j = (k : ℕ) → k < n → 1024 * k + 1024 ≤ length x
    → (j < 16 → values k ≡ value_before key flags (c + k) (take 1024 (drop (1024 * k) x)) j)
    × (j ≡ 16 → before k ≡ value_before_last key flags c x k)
    × (j ≡ 16 → values k ≡ run_cv key flags c x 0 k)

-- the chunks before their first blocks
pub blocks_begun : (key : List ℕ) (flags c : ℕ) (x : List ℕ) (n : ℕ) (values before : ℕ → List ℕ)
    → ((k : ℕ) → k < n → values k ≡ key) → AreAtBlock key flags c x n values before 0
unfolding value_before
blocks_begun key flags c x n values before same = λ k h w.
    (λ more. same k h, λ done. absurd (omega arith), λ done. absurd (omega arith))

-- one block more of each
pub blocks_more : (key : List ℕ) (flags c d : ℕ) (x : List ℕ) (n j : ℕ) (number at : ℕ → ℕ)
    (values before read next : ℕ → List ℕ) → AreAtBlock key flags c x n values before j → j < 16
    → ((k : ℕ) → k < n → read k ≡ words 4 16 (take 64 (drop (at k) x)))
    → ((k : ℕ) → k < n → 1024 * k + 1024 ≤ length x → at k ≡ 1024 * k + 64 * j)
    → ((k : ℕ) → k < n → number k ≡ c + k)
    → ((k : ℕ) → k < n → next k ≡ take 8 (compress3 (values k) (read k) (number k) 64 d))
    → (j ≡ 0 → d ≡ flags + 1) → (0 < j → j < 15 → d ≡ flags) → (j ≡ 15 → d ≡ flags + 2)
    → AreAtBlock key flags c x n next values (j + 1)
blocks_more key flags c d x n j number at values before read next here more reads place counted made start later end =
    λ k h w. block_more key flags c d x k j (number k) (at k) (values k) (read k) (next k) w more ((here k h w).0 more)
    (reads k h) (place k h w) (counted k h) (made k h) start later end
