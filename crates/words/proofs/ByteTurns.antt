-- Words that turn by whole bytes are their bytes in another order.
use Rattle.std.proofs.lemmas.Grind.{common_steps}
use Rattle.std.proofs.Common.{◌≡◌, ℕ, ◌<◌, ◌+◌, ◌*◌, ◌/◌, ◌%◌, ◌^◌, List, slice_index, bit_or, bit_xor, arith, ap, ◌∙◌}
use Rattle.std.proofs.Common.{sym}
use Rattle.std.proofs.lemmas.Nat.{or_shifted, or_comm}
use Rattle.std.specs.Int.{w32, rotate_right}
use Rattle.std.specs.Simd.Lanes.{number_l, chunk}

pub turned_16 : (x : ℕ) → x < 2 ^ 32
    → x / 256 ^ 2 % 256 + 256 * (x / 256 ^ 3 % 256 + 256 * (x / 256 ^ 0 % 256 + 256 * (x / 256 ^ 1 % 256 + 256 * 0)))
    ≡ rotate_right w32 x 16
turned_16 x h =
    let high : x * 65536 % 4294967296 ≡ x % 65536 * 65536 = omega arith in
    let joined : bit_or (x % 65536 * 65536) (x / 65536) ≡ x % 65536 * 65536 + x / 65536
    = or_shifted (x % 65536) 16 (x / 65536) (omega arith) in
    let bytes : x / 256 ^ 2 % 256 + 256 *
    (x / 256 ^ 3 % 256 + 256 * (x / 256 ^ 0 % 256 + 256 * (x / 256 ^ 1 % 256 + 256 * 0)))
    ≡ x % 65536 * 65536 + x / 65536 = omega arith in
    bytes ∙ sym joined ∙ or_comm (x % 65536 * 65536) (x / 65536) ∙ ap (λ (n : ℕ). bit_or (x / 65536) n) (sym high)

pub turned_8 : (x : ℕ) → x < 2 ^ 32
    → x / 256 ^ 1 % 256 + 256 * (x / 256 ^ 2 % 256 + 256 * (x / 256 ^ 3 % 256 + 256 * (x / 256 ^ 0 % 256 + 256 * 0)))
    ≡ rotate_right w32 x 8
turned_8 x h =
    let high : x * 16777216 % 4294967296 ≡ x % 256 * 16777216 = omega arith in
    let joined : bit_or (x % 256 * 16777216) (x / 256) ≡ x % 256 * 16777216 + x / 256
    = or_shifted (x % 256) 24 (x / 256) (omega arith) in
    let bytes : x / 256 ^ 1 % 256 + 256 *
    (x / 256 ^ 2 % 256 + 256 * (x / 256 ^ 3 % 256 + 256 * (x / 256 ^ 0 % 256 + 256 * 0))) ≡ x % 256 * 16777216 + x / 256
    = omega arith in
    bytes ∙ sym joined ∙ or_comm (x % 256 * 16777216) (x / 256) ∙ ap (λ (n : ℕ). bit_or (x / 256) n) (sym high)

-- four bytes of word i of z as a word
abbrev pub picked : List ℕ → ℕ → ℕ → ℕ → ℕ → ℕ → ℕ
picked z i a b c d = slice_index z (4 * i + a) + 256 * (slice_index z (4 * i + b) + 256 *
    (slice_index z (4 * i + c) + 256 * (slice_index z (4 * i + d) + 256 * 0)))

-- in n lanes: r has the words of the bytes u, which are those of z in an order in which words turn by k, and z has
-- the bytes of the words w, which are those of x xor y
pub words_turned : (n a b c d k : ℕ) (x y w z u r : List ℕ)
    → ((v : ℕ) → v < 2 ^ 32 → v / 256 ^ a % 256 + 256 * (v / 256 ^ b % 256 + 256 *
    (v / 256 ^ c % 256 + 256 * (v / 256 ^ d % 256 + 256 * 0))) ≡ rotate_right w32 v k)
    → (a < 4) × (b < 4) × (c < 4) × (d < 4)
    → ((i j : ℕ) → i < n → j < 4 → slice_index z (4 * i + j) ≡ slice_index w i / 256 ^ j % 256)
    → ((i : ℕ) → i < n → slice_index w i < 2 ^ 32)
    → ((i : ℕ) → i < n → slice_index w i ≡ bit_xor (slice_index x i) (slice_index y i))
    → ((i : ℕ) → i < n → number_l 256 (chunk (4 * i) 4 u) ≡ picked z i a b c d)
    → ((i : ℕ) → i < n → slice_index r i ≡ number_l 256 (chunk (4 * i) 4 u))
    → (i : ℕ) → i < n → slice_index r i ≡ rotate_right w32 (bit_xor (slice_index x i) (slice_index y i)) k
words_turned n a b c d k x y w z u r turns within bytes fit lanes moved words i h = grind (arith, common_steps, slice_index)
