-- Messages of one chunk that lie in one buffer, as BLAKE3 takes them in lanes.
use Rattle.std.proofs.Common.{◌≡◌, ℕ, ◌+◌, ◌-◌, ◌*◌, ◌/◌, ◌<◌, ◌≤◌, List, [], length, take, drop}
use Rattle.std.proofs.Common.{refl, sym, ap, ◌∙◌, arith, add-one, zero-add}
use Rattle.std.proofs.Common.{slice_index, slice_index_or}
use Rattle.std.proofs.Math.ListN.{set}
use borrow.Author.Count.{below_more}
use Rattle.std.proofs.lemmas.List.{take-take, take_all}
use Rattle.std.proofs.lemmas.List.{get_or-set_same, get_or-set_other, length-set}
use Rattle.words.specs.Blake3.{compress3}
use Rattle.words.specs.Tables.{iv32}
use Rattle.words.specs.Words.{words, padded, word_bytes}
use Rattle.b3.specs.Bytes.{byte, slice}
use Rattle.b3.specs.Chunk.{chunk, value_before, block, block_words, last_block, start_flag}
use Rattle.b3.specs.Laws.{TreeOfOneChunk}
use Rattle.b3.specs.Modes.{hash_root}
use Rattle.b3.specs.Node.{Node, cv, output_block}
use Rattle.b3.specs.Tree.{chunk_count}
use Rattle.b3.proofs.Lanes8.{block_words_full}
use Rattle.pieces.proofs.PieceChains.{length_piece, piece_from}

-- the message of `len` bytes that begins at s
abbrev pub message : List ℕ → ℕ → ℕ → List ℕ
message x s len = take len (drop s x)

-- a block of 64 bytes
block_within : (x : List ℕ) (s len j : ℕ) → 64 * j + 64 ≤ len
    → block (message x s len) j ≡ take 64 (drop (s + 64 * j) x)
block_within x s len j h =
    ap (λ (ys : List ℕ). take 64 ys) (piece_from x s len (64 * j) (omega arith))
    ∙ take-take 64 (len - 64 * j) (drop (s + 64 * j) x) (omega arith)

-- the last block
block_last : (x : List ℕ) (s len j : ℕ) → 64 * j ≤ len → len ≤ 64 * j + 64 → s + len ≤ length x
    → block (message x s len) j ≡ message x (s + 64 * j) (len - 64 * j)
block_last x s len j h short fits =
    let size = length_piece x (s + 64 * j) (len - 64 * j) (omega arith) in
    ap (λ (ys : List ℕ). take 64 ys) (piece_from x s len (64 * j) h)
    ∙ take_all 64 (message x (s + 64 * j) (len - 64 * j)) (omega (arith, size))

-- one block more of a message
pub value_more : (x value read next : List ℕ) (s len j t d : ℕ) → 64 * j + 64 ≤ len → s + len ≤ length x
    → value ≡ value_before iv32 0 0 (message x s len) j → read ≡ words 4 16 (take 64 (drop (s + 64 * j) x)) → t ≡ 0
    → d ≡ start_flag j → next ≡ take 8 (compress3 value read t 64 d)
    → next ≡ value_before iv32 0 0 (message x s len) (j + 1)
unfolding value_before cv
value_more x value read next s len j t d within fits here reads number flag made =
    let size = length_piece x (s + 64 * j) 64 (omega arith) in
    let whole = block_words_full (take 64 (drop (s + 64 * j) x)) size in
    made ∙ rw (
      add-one,
      block_within x s len j within,
      size,
      whole,
      zero-add (start_flag j),
      here,
      reads,
      number,
      flag,
    ) refl

-- the first eight words of a root's output
abbrev output_words : Node → List ℕ
output_words root = take 8 (compress3 root.h root.m 0 root.b (root.d + 8))

-- the last block of a message of one chunk
pub root_words : TreeOfOneChunk → (x value read next : List ℕ) (s len last left t d : ℕ) → 0 < len → len ≤ 1024
    → s + len ≤ length x → last ≡ (len - 1) / 64 → left ≡ len - 64 * last
    → value ≡ value_before iv32 0 0 (message x s len) last
    → read ≡ words 4 16 (padded 64 (take left (drop (s + 64 * last) x))) → t ≡ 0 → d ≡ start_flag last + 2 + 8
    → next ≡ take 8 (compress3 value read t left d) → next ≡ output_words (hash_root (message x s len))
unfolding chunk block_words
root_words one x value read next s len last left t d some most fits is_last is_left here reads number flags made =
    let m : List ℕ = message x s len in
    let size = length_piece x s len fits in
    let only : chunk_count m ≡ 1 = omega (arith, size) in
    let at : last_block m ≡ last = omega (arith, size) in
    let short = length_piece x (s + 64 * last) left (omega arith) in
    let block_is : block m last ≡ take left (drop (s + 64 * last) x)
    = block_last x s len last (omega arith) (omega arith) fits
    ∙ ap (λ (n : ℕ). take n (drop (s + 64 * last) x)) (sym is_left) in
    made ∙ rw (here, reads, number, flags)
    (sym (ap output_words (one iv32 0 0 m only)
    ∙ rw (at, block_is, short, zero-add (start_flag last)) refl))

-- a digest is the bytes of these words
pub digest_of_words : (root : Node) (w : List ℕ) → w ≡ output_words root → word_bytes 4 w ≡ slice root 0 32
unfolding byte slice output_block word_bytes compress3
digest_of_words root w e = rw e refl

-- a digest is a row of 32 bytes
pub digest_row : (root : Node) (row : List ℕ) → row ≡ slice root 0 32
    → (take 32 row ≡ slice root 0 32) × (length row ≡ 32)
unfolding slice
digest_row root row e = (ap (λ (ys : List ℕ). take 32 ys) e, ap length e)

-- rows for the digests of eight messages, of which the first n are written
pub record AreDigests (x starts : List ℕ) (len : ℕ → ℕ) (rows : List (List ℕ)) (n : ℕ) : Type 0 where
  pub eight : length rows ≡ 8
  pub written : (k : ℕ) → k < n
      → slice_index_or rows k [] ≡ slice (hash_root (message x (slice_index starts k) (len k))) 0 32

-- one digest more
pub digests_more : (x starts : List ℕ) (len : ℕ → ℕ) (rows : List (List ℕ)) (i : ℕ) (row : List ℕ)
    → AreDigests x starts len rows i → i < 8
    → row ≡ slice (hash_root (message x (slice_index starts i) (len i))) 0 32
    → AreDigests x starts len (set rows i row) (i + 1)
digests_more x starts len rows i row held h is = record {
  eight = length-set rows i row ∙ held.eight;
  written = below_more
      (λ k. slice_index_or (set rows i row) k [] ≡ slice (hash_root (message x (slice_index starts k) (len k))) 0 32)
      i
      (λ k below. get_or-set_other rows i k row [] (λ e. absurd (omega (arith, e))) ∙ held.written k below)
      (get_or-set_same rows i row [] (omega arith) ∙ is);
}
