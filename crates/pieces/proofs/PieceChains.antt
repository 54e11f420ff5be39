-- Pieces of one buffer that are hashed side by side.
use Rattle.std.proofs.Common.{◌≡◌, ℕ, zero, suc, false, true, ◌+◌, ◌-◌, ◌*◌, ◌/◌, ◌<◌, ◌≤◌, List, [], ◌++◌, length}
use Rattle.std.proofs.Common.{◌∷◌, take, drop, replicate, refl, ap, ◌∙◌, arith, length-append}
use Rattle.std.proofs.Common.{length-drop, slice_index_or}
use Rattle.std.proofs.lemmas.List.{take-take, drop-take, drop-drop, take_all, append-nil, length-take-le}
use Rattle.std.proofs.lemmas.List.{take_at, drop_at, length-replicate}
use Rattle.std.specs.List.{flat_map}
use Rattle.words.specs.Blake2.{compress}
use Rattle.words.specs.Mix.{Variant}
use Rattle.words.specs.Words.{words, padded, word_bytes}
use Rattle.blake2.specs.Blake2.{blake2, block_count, block_len, block_words, chain, final_value, key_block, start}
use Rattle.blake2.specs.Blake2.{unsalted, word_len}
use Rattle.blake2.proofs.Blocks.{before_last}
use Rattle.pieces.specs.inside.Blocks.{taken}

-- the bytes of a piece from its byte a on
pub piece_from : (x : List ℕ) (s len a : ℕ) → a ≤ len → drop a (take len (drop s x)) ≡ take (len - a) (drop (s + a) x)
piece_from x s len a h =
    let size : len ≡ a + (len - a) = omega arith in
    ap (λ (n : ℕ). drop a (take n (drop s x))) size ∙ drop-take a (len - a) (drop s x)
    ∙ ap (λ (ys : List ℕ). take (len - a) ys) (drop-drop a s x)

pub length_piece : (x : List ℕ) (s len : ℕ) → s + len ≤ length x → length (take len (drop s x)) ≡ len
length_piece x s len h = length-take-le len (drop s x) (omega (arith, length-drop s x))

-- a whole block needs no padding
whole : (n : ℕ) (x : List ℕ) → length x ≡ n → padded n x ≡ x
whole n x h =
    let e : n - length x ≡ 0 = omega arith in rw (e, append-nil) refl

-- a block of a piece that lies before its end
block_in : (k : Variant) (n : ℕ) (x : List ℕ) (s len j : ℕ) → n ≡ block_len k → j * n + n ≤ len → s + len ≤ length x
    → block_words k (take len (drop s x)) j ≡ words (word_len k) 16 (take n (drop (s + n * j) x))
block_in k n x s len j w inside fits =
    let place : j * n ≡ n * j = omega arith in
    let size : length (take n (drop (s + j * n) x)) ≡ n = length_piece x (s + j * n) n (omega arith) in
    rw (
      ← w,
      piece_from x s len (j * n) (omega arith),
      take-take n (len - j * n) (drop (s + j * n) x) (omega arith),
      whole n (take n (drop (s + j * n) x)) size,
      place,
    ) refl

-- one block more of a piece
pub chain_more : (k : Variant) (n : ℕ) (h x value read next : List ℕ) (s len j t : ℕ) → n ≡ block_len k
    → j * n + n ≤ len → s + len ≤ length x
    → value ≡ chain k h (take len (drop s x)) j → read ≡ words (word_len k) 16 (take n (drop (s + n * j) x))
    → t ≡ n * (j + 1)
    → next ≡ compress k value read t false → next ≡ chain k h (take len (drop s x)) (j + 1)
unfolding chain
chain_more k n h x value read next s len j t w inside fits here reads count made =
    let more : j + 1 ≡ suc j = omega arith in
    let at : t ≡ (j + 1) * block_len k = count ∙ rw w (omega arith) in
    made ∙ rw (more, here, reads, at, block_in k n x s len j w inside fits) refl

-- the blocks of a piece that are taken one after the other
pub chain_taken : (k : Variant) (n : ℕ) (h x : List ℕ) (s len j : ℕ) → n ≡ block_len k → j * n ≤ len
    → s + len ≤ length x
    → taken (λ i v b. compress k v (words (word_len k) 16 b) (n * (i + 1)) false) n h x s j
    ≡ chain k h (take len (drop s x)) j
unfolding taken chain
chain_taken k n h x s len zero w inside fits = refl
chain_taken k n h x s len (suc j) w inside fits =
    let more : j + 1 ≡ suc j = omega arith in
    chain_more k n h x _ _ _ s len j _ w (omega arith) fits (chain_taken k n h x s len j w (omega arith) fits) refl refl
    refl ∙ ap (chain k h (take len (drop s x))) more

-- the last block of a piece
pub chain_last : (k : Variant) (n : ℕ) (h x value read next : List ℕ) (s len : ℕ) → n ≡ block_len k → 0 < n
    → s + len ≤ length x
    → value ≡ chain k h (take len (drop s x)) ((len - 1) / n)
    → read ≡ words (word_len k) 16
    (padded n (take (len - n * ((len - 1) / n)) (drop (s + n * ((len - 1) / n)) x)))
    → len - n * ((len - 1) / n) ≤ n → n * ((len - 1) / n) ≤ len
    → next ≡ compress k value read len true → next ≡ final_value k h (take len (drop s x))
unfolding final_value
chain_last k n h x value read next s len w pos fits here reads short below made =
    let q : ℕ = (len - 1) / n in
    let p : List ℕ = take len (drop s x) in
    let size : length p ≡ len = length_piece x s len fits in
    let back : n * q ≡ q * n = omega arith in
    let tail : length (take (len - n * q) (drop (s + n * q) x)) ≡ len - n * q =
    length_piece x (s + n * q) (len - n * q) (omega arith) in
    let blocks : block_count k len - 1 ≡ q = before_last k len (rw (← w) pos) ∙ rw (← w) refl in
    let block : block_words k p q ≡ words (word_len k) 16 (padded n (take (len - n * q) (drop (s + n * q) x))) =
    rw (
      ← w,
      ← back,
      piece_from x s len (n * q) below,
      take_all n (take (len - n * q) (drop (s + n * q) x)) (omega arith),
    ) refl in
    made ∙ rw (size, blocks, block, here, reads) refl

-- a row of rows of n bytes that lie one after the other
pub row_of : (n : ℕ) (bs : List (List ℕ)) → ((i : ℕ) → i < length bs → length (slice_index_or bs i []) ≡ n)
    → (i : ℕ) → i < length bs → take n (drop (n * i) (flat_map (λ x. x) bs)) ≡ slice_index_or bs i []
row_of n [] sizes i h = absurd (omega arith)
row_of n (b ∷ bs) sizes zero h =
    let z : n * 0 ≡ 0 = omega arith in
    rw z (take_at b (flat_map (λ x. x) bs) n (sizes 0 (omega arith)))
row_of n (b ∷ bs) sizes (suc i) h =
    let size : length b ≡ n = sizes 0 (omega arith) in
    let next : n * suc i ≡ n + n * i = omega arith in
    rw (next, ← drop-drop (n * i) n (b ++ flat_map (λ x. x) bs), drop_at b (flat_map (λ x. x) bs) n size)
    (row_of n bs (λ j l. sizes (suc j) (omega arith)) i (omega arith))

-- the length of a padded block
pub length_padded : (n : ℕ) (x : List ℕ) → length x ≤ n → length (padded n x) ≡ n
length_padded n x h =
    let zeros : List ℕ = replicate {A = ℕ} (n - length x) 0 in
    omega (arith, length-append x zeros, length-replicate {A = ℕ} (n - length x) 0)

-- the digest without a key is made of the final value
pub digest_of : (k : Variant) (n : ℕ) (first value bytes m : List ℕ) → first ≡ start k (unsalted k n [])
    → bytes ≡ word_bytes (word_len k) value → value ≡ final_value k first m
    → take n bytes ≡ blake2 k (unsalted k n []) m
unfolding blake2 key_block
digest_of k n first value bytes m begun written made = rw (written, made, begun) refl
