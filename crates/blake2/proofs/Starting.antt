-- What a hasher starts with: the parameter block, and the key's block.
use Rattle.std.proofs.lemmas.Grind.{common_steps}
use Rattle.std.proofs.Common.{◌≡◌, ℕ, ◌+◌, ◌-◌, ◌*◌, ◌/◌, ◌≤◌, ◌<◌, List, [], ◌∷◌, ◌++◌, length, take, drop, replicate}
use Rattle.std.proofs.Common.{ap, arith, zero-add, true, false}
use Rattle.std.specs.Prelude.{◌==◌}
use Rattle.std.proofs.lemmas.Bool.Decides.{nat_tests}
use Rattle.std.proofs.lemmas.List.{take-append-drop, drop-replicate, append-nil, take-replicate}
use Rattle.words.specs.Mix.{Variant}
use Rattle.words.specs.Words.{padded}
use Rattle.blake2.specs.Blake2.{block_len, key_block, parameter_block, input, salted, word_len}

-- bytes that were written over the first of n zeros
pub padded_from : (n : ℕ) (b y : List ℕ) → take (0 + length y) b ≡ y
    → drop (0 + length y) b ≡ drop (0 + length y) (replicate {A = ℕ} n 0) → b ≡ padded n y
padded_from n b y front rest = grind (arith, common_steps, drop-replicate, zero-add, take-append-drop)

-- without a key, the empty message has no input
pub input_unkeyed : (k : Variant) (key : List ℕ) → true ≡ (length key == 0) → [] ≡ input k key []
unfolding key_block
input_unkeyed k key e = grind (arith, common_steps, nat_tests)

-- under a key, it has the key's block
pub input_keyed : (k : Variant) (key : List ℕ) (n : ℕ) → false ≡ (length key == 0) → n ≡ block_len k
    → padded n key ≡ input k key []
unfolding key_block
input_keyed k key n e w = grind (arith, common_steps, append-nil)

-- half a block of bytes
pub half_block : (k : Variant) (n : ℕ) → n ≡ block_len k → n / 2 ≡ 8 * word_len k
unfolding block_len
half_block k n e = omega arith

-- four bytes with zeros up to a block, over which salt and personalization are written, begin with the
-- parameter block
pub parameters_first : (k : Variant) (n d : ℕ) (key salt personal b b1 b2 : List ℕ) → n ≡ block_len k → 0 < n
    → length salt ≡ 2 * word_len k → length personal ≡ 2 * word_len k
    → b ≡ padded n (d ∷ length key ∷ 1 ∷ 1 ∷ [])
    → take (n / 4 + length salt) b1 ≡ take (n / 4) b ++ salt
    → take (n / 4 + n / 8 + length personal) b2 ≡ take (n / 4 + n / 8) b1 ++ personal
    → take (n / 2) b2 ≡ parameter_block k (salted d key salt personal)
unfolding block_len
parameters_first k n d key salt personal b b1 b2 en some es ep eb e1 e2 = grind (arith, common_steps, take-replicate)

-- two words end within a block, after its quarter, and after an eighth more
pub two_words_fit : (k : Variant) (n m : ℕ) → n ≡ block_len k → m ≡ 2 * word_len k
    → (n / 4 + m ≤ n) × (n / 4 + n / 8 + m ≤ n)
unfolding block_len
two_words_fit k n m en em = (omega arith, omega arith)

-- four bytes fit a block
pub four_fit : (k : Variant) (n : ℕ) → n ≡ block_len k → 0 < n → 4 ≤ n
unfolding block_len
four_fit k n e some = omega arith
