-- BLAKE2 (RFC 7693, 3.3) as a function of the whole input, once for both variants, with the salt and
-- the personalization of its parameter block (the BLAKE2 paper, 2.5 and 2.8).
use Rattle.std.specs.Prelude.{◌≡◌, ◌≤◌, ℕ, zero, suc, ◌+◌, ◌-◌, ◌*◌, ◌/◌, true, false, List, [], ◌∷◌, ◌++◌, length}
use Rattle.std.specs.Prelude.{take, drop, map, replicate, bit_xor, slice_index}
use Rattle.std.specs.Int.{byte_len}
use Rattle.std.specs.List.{range_with_len}
use Rattle.words.specs.Blake2.{compress}
use Rattle.words.specs.Mix.{Variant}
use Rattle.words.specs.Words.{words, word_bytes, padded}

-- the parameters of a digest; salt and personalization have two words each
pub record Parameters : Type 0 where
  pub digest_length : ℕ
  pub key : List ℕ
  pub salt : List ℕ
  pub personal : List ℕ

-- the number of bytes of a word (2.1)
abbrev pub word_len : Variant → ℕ
word_len k = byte_len k.word

-- the number of bytes of a block (2.1)
unfoldable pub block_len : Variant → ℕ
block_len k = 16 * word_len k

-- the parameter block: digest length, key length, fanout 1, depth 1, zeros, salt, personalization (2.5)
abbrev pub parameter_block : Variant → Parameters → List ℕ
parameter_block k p =
    padded (4 * word_len k) (p.digest_length ∷ length p.key ∷ 1 ∷ 1 ∷ []) ++ p.salt ++ p.personal

-- eight words, xored one by one with eight others
abbrev pub xor_words : List ℕ → List ℕ → List ℕ
xor_words xs ys = map (λ i. bit_xor (slice_index xs i) (slice_index ys i)) (range_with_len 0 8)

-- the chaining value before the first block (3.3)
unfoldable pub start : Variant → Parameters → List ℕ
start k p = xor_words k.iv (words (word_len k) 8 (parameter_block k p))

-- the key, padded to a block of its own; nothing for an empty key (3.3)
unfoldable pub key_block : Variant → List ℕ → List ℕ
key_block k [] = []
key_block k (x ∷ xs) = padded (block_len k) (x ∷ xs)

-- all that is compressed: the key's block, if any, and the message (3.3)
abbrev pub input : Variant → List ℕ → List ℕ → List ℕ
input k key m = key_block k key ++ m

-- the words of block i of the input p, with zeros after the input's end (3.3)
abbrev pub block_words : Variant → List ℕ → ℕ → List ℕ
block_words k p i = words (word_len k) 16 (padded (block_len k) (take (block_len k) (drop (i * block_len k) p)))

-- the number of blocks of an input of n bytes: one if n is 0, otherwise n divided by the block length, rounded up (3.3)
unfoldable pub block_count : Variant → ℕ → ℕ
block_count k zero = 1
block_count k (suc n) = (suc n + (block_len k - 1)) / block_len k

-- the chaining value after the first n blocks of p, starting from h; none of them is the last block (3.3)
unfoldable pub chain : Variant → List ℕ → List ℕ → ℕ → List ℕ
chain k h p zero = h
chain k h p (suc n) = compress k (chain k h p n) (block_words k p n) ((n + 1) * block_len k) false

-- the chaining value after all blocks of p, the last one marked (3.3)
unfoldable pub final_value : Variant → List ℕ → List ℕ → List ℕ
final_value k h p =
    let n : ℕ = block_count k (length p) - 1 in
    compress k (chain k h p n) (block_words k p n) (length p) true

-- the digest of the message m under the parameters (3.3)
unfoldable pub blake2 : Variant → Parameters → List ℕ → List ℕ
blake2 k p m = take p.digest_length (word_bytes (word_len k) (final_value k (start k p) (input k p.key m)))

-- the parameters that the function has: a digest and a key of up to eight words, a salt and a personalization of two
-- (2.1; the BLAKE2 paper, 2.5)
abbrev pub IsParameters : Variant → Parameters → Type 0
IsParameters k p = (1 ≤ p.digest_length) × (p.digest_length ≤ 8 * word_len k)
    × (length p.key ≤ 8 * word_len k)
    × (length p.salt ≡ 2 * word_len k) × (length p.personal ≡ 2 * word_len k)

-- the parameters with a salt and a personalization
abbrev pub salted : ℕ → List ℕ → List ℕ → List ℕ → Parameters
salted digest_length key salt personal =
    record { digest_length = digest_length; key = key; salt = salt; personal = personal }

-- the parameters without them: both are zeros
abbrev pub unsalted : Variant → ℕ → List ℕ → Parameters
unsalted k digest_length key =
    salted digest_length key (replicate (2 * word_len k) 0) (replicate (2 * word_len k) 0)

-- the parameters as one list
abbrev pub listed : Parameters → List ℕ
listed p = p.digest_length ∷ p.salt ++ p.personal ++ p.key

-- the parameters that such a list represents
abbrev pub from_list : Variant → List ℕ → Parameters
from_list k l = salted (slice_index l 0) (drop (1 + 4 * word_len k) l) (take (2 * word_len k) (drop 1 l))
    (take (2 * word_len k) (drop (1 + 2 * word_len k) l))

-- the greatest length of a message under a key, if the input has at most `most` bytes: a key takes up one block of the
-- input
abbrev pub message_limit : ℕ → ℕ → List ℕ → ℕ
message_limit most block [] = most
message_limit most block (x ∷ xs) = most - block
