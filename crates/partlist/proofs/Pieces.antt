-- The line of the part of some bytes tells their part: its chaining value is eight words.
use Rattle.std.proofs.lemmas.Grind.{common_steps}
use Rattle.std.proofs.Common.{◌≡◌, ℕ, zero, suc, ◌+◌, ◌*◌, ◌/◌, ◌^◌, ◌<◌, ◌≤◌, Bool, true, false, List, [], ◌∷◌, ◌++◌}
use Rattle.std.proofs.Common.{length, take, drop, fold, map, slice_index, slice_set, bit_xor, refl, sym, ap, ◌∙◌, arith}
use Rattle.std.proofs.Common.{length-append, leb}
use Rattle.std.proofs.Math.Nat.{div-le_self}
use Rattle.std.proofs.lemmas.List.{length-take}
use Rattle.std.proofs.lemmas.Nat.{or_lt, xor_lt}
use Rattle.std.specs.Int.{bytes_low_first}
use Rattle.std.specs.List.{enumerate_from}
use Rattle.hex.specs.Hex.{IsBytes}
use Rattle.words.specs.Blake2.{blake2s, schedule}
use Rattle.words.specs.Blake3.{compress3, permuted_words, rounds3, working_words3}
use Rattle.words.specs.Mix.{g, g_at, rotated_xor, round, word_sum}
use Rattle.words.specs.Tables.{iv32, places}
use Rattle.words.specs.Words.{word_bytes}
use Rattle.b3.specs.Chunk.{block, chunk, start_flag, value_before}
use Rattle.b3.specs.Modes.{hash_parameters, tree_of}
use Rattle.b3.specs.Node.{Node, cv}
use Rattle.b3.specs.Tree.{chunk_count, parent, tree, tree_within}
use Rattle.b3.specs.declared.row.PartValue.{PartValue}
use Rattle.words.proofs.WordsBack.{words_back}
use Rattle.partlist.specs.Laws.{TellsBytes}

-- each is a word of 32 bits
record AreWords (xs : List ℕ) : Type 0 where
  at : (i : ℕ) → slice_index xs i < 2 ^ 32

none_words : AreWords []
none_words = record { at = λ i. omega arith }

cons-at : (x : ℕ) (xs : List ℕ) → x < 2 ^ 32 → AreWords xs → (i : ℕ) → slice_index (x ∷ xs) i < 2 ^ 32
cons-at x xs h are i = grind (arith, common_steps)

words-cons : (x : ℕ) (xs : List ℕ) → x < 2 ^ 32 → AreWords xs → AreWords (x ∷ xs)
words-cons x xs h are = record { at = cons-at x xs h are }

words-four : (a b c d : ℕ) → a < 2 ^ 32 → b < 2 ^ 32 → c < 2 ^ 32 → d < 2 ^ 32 → AreWords (a ∷ b ∷ c ∷ d ∷ [])
words-four a b c d p q r s = grind (arith, common_steps, words-cons, none_words)

append-at : (bound : ℕ) (xs ys : List ℕ) → ((i : ℕ) → slice_index xs i < bound)
    → ((i : ℕ) → slice_index ys i < bound) → (i : ℕ) → slice_index (xs ++ ys) i < bound
append-at bound [] ys p q i = q i
append-at bound (x ∷ xs) ys p q zero = p zero
append-at bound (x ∷ xs) ys p q (suc i) = append-at bound xs ys (λ k. p (suc k)) q i

words-append : (xs ys : List ℕ) → AreWords xs → AreWords ys → AreWords (xs ++ ys)
words-append xs ys p q = record { at = append-at (2 ^ 32) xs ys p.at q.at }

set-at : (xs : List ℕ) (i a : ℕ) → ((k : ℕ) → slice_index xs k < 2 ^ 32) → a < 2 ^ 32
    → (k : ℕ) → slice_index (slice_set xs i a) k < 2 ^ 32
set-at [] i a p h k = p k
set-at (x ∷ xs) zero a p h zero = h
set-at (x ∷ xs) zero a p h (suc k) = p (suc k)
set-at (x ∷ xs) (suc i) a p h zero = p zero
set-at (x ∷ xs) (suc i) a p h (suc k) = set-at xs i a (λ j. p (suc j)) h k

words-set : (xs : List ℕ) (i a : ℕ) → AreWords xs → a < 2 ^ 32 → AreWords (slice_set xs i a)
words-set xs i a are h = record { at = set-at xs i a are.at h }

-- ---- the compression

sum-word : (x y : ℕ) → word_sum blake2s x y < 2 ^ 32
sum-word x y = omega arith

part-word : (n p : ℕ) → n < 2 ^ 32 → n / 2 ^ p < 2 ^ 32
part-word n p h = let least = div-le_self n (2 ^ p) in omega (arith, least, h)

rotated-word : (i x y : ℕ) → x < 2 ^ 32 → y < 2 ^ 32 → rotated_xor blake2s i x y < 2 ^ 32
rotated-word i x y p q = or_lt 32 _ _ (part-word (bit_xor x y) _ (xor_lt 32 x y p q)) (omega arith)

g-words : (v : List ℕ) (x y : ℕ) → AreWords v → AreWords (g blake2s v x y)
unfolding g
g-words v x y are =
    let d = rotated-word 0 (slice_index v 3) _ (are.at 3) (sum-word _ x) in
    let b = rotated-word 1 (slice_index v 1) _ (are.at 1) (sum-word (slice_index v 2) _) in
    let d' = rotated-word 2 _ _ d (sum-word _ y) in
    let b' = rotated-word 3 _ _ b (sum-word _ _) in
    words-four _ _ _ _ (sum-word _ y) b' (sum-word _ _) d'

fold-words : {A : Type 0} (f : List ℕ → A → List ℕ) → ((w : List ℕ) (a : A) → AreWords w → AreWords (f w a))
    → (v : List ℕ) (xs : List A) → AreWords v → AreWords (fold f v xs)
fold-words f keeps v [] are = are
fold-words f keeps v (x ∷ xs) are = fold-words f keeps (f v x) xs (keeps v x are)

words-at : (v places : List ℕ) → AreWords v → AreWords (map (slice_index v) places)
words-at v [] are = none_words
words-at v (place ∷ places) are = words-cons _ _ (are.at place) (words-at v places are)

g_at-words : (v places : List ℕ) (x y : ℕ) → AreWords v → AreWords (g_at blake2s v places x y)
unfolding g_at
g_at-words v places x y are =
    let mixed = g-words (map (slice_index v) places) x y (words-at v places are) in
    fold-words _ (λ w (i, place) some. words-set w place _ some (mixed.at i)) v (enumerate_from 0 places) are

rounds-words : (v m : List ℕ) (n : ℕ) → AreWords v → AreWords (rounds3 v m n)
unfolding rounds3 round
rounds-words v m zero are = are
rounds-words v m (suc n) are =
    let word : ℕ → ℕ = λ i. slice_index (permuted_words m n) (slice_index (schedule 0) i) in
    fold-words (λ w (i, four). g_at blake2s w four (word (2 * i)) (word (2 * i + 1)))
    (λ w (i, four) some. g_at-words w four (word (2 * i)) (word (2 * i + 1)) some) (rounds3 v m n)
    (enumerate_from 0 places) (rounds-words v m n are)

iv-four : AreWords (0x6A09E667 ∷ 0xBB67AE85 ∷ 0x3C6EF372 ∷ 0xA54FF53A ∷ [])
iv-four = words-four _ _ _ _ (omega arith) (omega arith) (omega arith) (omega arith)

working-words : (h : List ℕ) (t b d : ℕ) → AreWords h → t < 2 ^ 64 → b < 2 ^ 32 → d < 2 ^ 32
    → AreWords (working_words3 h t b d)
working-words h t b d are p q r = grind (arith, common_steps, words-append, iv-four, words-four)

-- a node whose numbers are words, and its counter two
record IsFit (node : Node) : Type 0 where
  h : AreWords node.h
  t : node.t < 2 ^ 64
  b : node.b < 2 ^ 32
  d : node.d < 2 ^ 32

cv-words : (node : Node) → IsFit node → AreWords (cv node)
unfolding cv compress3
cv-words node fit =
    let v = rounds3 (working_words3 node.h node.t node.b node.d) node.m 7 in
    let are : AreWords v = rounds-words _ node.m 7
    (working-words node.h node.t node.b node.d fit.h fit.t fit.b fit.d) in
    let low : (i : ℕ) → bit_xor (slice_index v i) (slice_index v (i + 8)) < 2 ^ 32
    = λ i. xor_lt 32 (slice_index v i) (slice_index v (i + 8)) (are.at i) (are.at (i + 8)) in
    words-append _ _ (words-four _ _ _ _ (low 0) (low 1) (low 2) (low 3))
    (words-four _ _ _ _ (low 4) (low 5) (low 6) (low 7))

cv-length : (node : Node) → length (cv node) ≡ 8
unfolding cv compress3
cv-length node = refl

-- ---- the nodes of the tree

module _ (key : List ℕ) (flags : ℕ) (are : AreWords key) (few : flags < 256) where
  start_few : (j : ℕ) → start_flag j ≤ 1
  start_few j = grind (arith, common_steps)

  block_few : (x : List ℕ) (j : ℕ) → length (block x j) < 2 ^ 32
  block_few x j = omega (arith, length-take 64 (drop (64 * j) x))

  before-words : (c : ℕ) (x : List ℕ) (j : ℕ) → c < 2 ^ 64 → AreWords (value_before key flags c x j)
  unfolding value_before
  before-words c x zero h = are
  before-words c x (suc j) h = cv-words _ (record {
    h = before-words c x j h;
    t = h;
    b = block_few x j;
    d = omega (arith, few, start_few j);
  })

  chunk-fit : (c : ℕ) (x : List ℕ) → c < 2 ^ 64 → IsFit (chunk key flags c x)
  unfolding chunk
  chunk-fit c x h = grind (arith, common_steps, before-words, block_few, start_few)

  parent-fit : (left right : List ℕ) → IsFit (parent key flags left right)
  unfolding parent
  parent-fit left right = record { h = are; t = omega arith; b = omega arith; d = omega (arith, few) }

  one-fit : (b : Bool) (node : Node) (left right : List ℕ) → IsFit node
      → IsFit (elim b [
        | true ↦ node
        | false ↦ parent key flags left right
      ])
  one-fit true node left right fit = fit
  one-fit false node left right fit = parent-fit left right

  within-fit : (l c : ℕ) (m : List ℕ) → c < 2 ^ 64 → IsFit (tree_within l key flags c m)
  unfolding tree_within
  within-fit zero c m h = chunk-fit c m h
  within-fit (suc l) c m h =
      one-fit (leb (chunk_count m) (2 ^ l)) (tree_within l key flags c m)
      (cv (tree_within l key flags c (take (1024 * 2 ^ l) m)))
      (cv (tree_within l key flags (c + 2 ^ l) (drop (1024 * 2 ^ l) m))) (within-fit l c m h)

  tree-fit : (c : ℕ) (m : List ℕ) → c < 2 ^ 64 → IsFit (tree key flags c m)
  unfolding tree
  tree-fit c m h = within-fit (chunk_count m) c m h

iv-words : AreWords iv32
iv-words = words-append _ _ iv-four (words-four _ _ _ _ (omega arith) (omega arith) (omega arith) (omega arith))

-- ---- the line

low_first-bytes : (x : ℕ) → IsBytes (bytes_low_first 0 4 x)
low_first-bytes x h = grind (arith, common_steps)

pub word_bytes-bytes : (xs : List ℕ) → IsBytes (word_bytes 4 xs)
unfolding word_bytes
word_bytes-bytes [] = λ i. omega arith
word_bytes-bytes (x ∷ xs) =
    append-at 256 (bytes_low_first 0 4 x) (word_bytes 4 xs) (low_first-bytes x) (word_bytes-bytes xs)

word_bytes-length : (xs : List ℕ) → length (word_bytes 4 xs) ≡ 4 * length xs
unfolding word_bytes
word_bytes-length [] = refl
word_bytes-length (x ∷ xs) = let rest = word_bytes-length xs in
    omega (arith, rest, length-append (bytes_low_first 0 4 x) (word_bytes 4 xs))

pub tells_bytes : TellsBytes
tells_bytes c x placed =
    let node : Node = tree_of hash_parameters c x in
    let value : List ℕ = cv node in
    let limit = placed.1 in
    let fit = tree-fit iv32 0 iv-words (omega arith) c x (omega (arith, limit)) in
    let part : PartValue = record { first_chunk = c; len = length x; value = value; placed = placed } in (
      part,
      (
        word_bytes 4 value,
        record {
          placed = placed;
          bytes = word_bytes-bytes value;
          sized = word_bytes-length value ∙ ap (λ n. 4 * n) (cv-length node);
          text = refl;
        },
        sym (words_back 8 value (cv-length node) (λ i below. (cv-words node fit).at i)),
      ),
      refl,
      record { len = refl; value = refl },
    )
