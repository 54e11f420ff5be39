-- Words of eight bytes that turn by whole bytes are their bytes in another order.
use Rattle.std.proofs.lemmas.Grind.{common_steps}
use Rattle.std.proofs.Common.{◌≡◌, ℕ, ◌<◌, ◌+◌, ◌*◌, ◌/◌, ◌%◌, ◌^◌, List, slice_index, bit_or, bit_xor, arith}
use Rattle.std.proofs.lemmas.Nat.{or_shifted, or_comm}
use Rattle.std.specs.Int.{w64, rotate_right}
use Rattle.std.specs.Simd.Lanes.{number_l, chunk}

-- eight bytes as a word, the lowest first
abbrev pub word_of : ℕ → ℕ → ℕ → ℕ → ℕ → ℕ → ℕ → ℕ → ℕ
word_of a b c d e f g h =
    a + 256 * (b + 256 * (c + 256 * (d + 256 * (e + 256 * (f + 256 * (g + 256 * (h + 256 * 0)))))))

-- eight bytes of a word as a word
abbrev pub bytes_of : ℕ → ℕ → ℕ → ℕ → ℕ → ℕ → ℕ → ℕ → ℕ → ℕ
bytes_of x a b c d e f g h =
    word_of (x / 256 ^ a % 256) (x / 256 ^ b % 256) (x / 256 ^ c % 256) (x / 256 ^ d % 256) (x / 256 ^ e % 256)
    (x / 256 ^ f % 256) (x / 256 ^ g % 256) (x / 256 ^ h % 256)

-- the low part of a word, moved up by k bits over its high part
exchanged : (x low k made moved : ℕ) → moved ≡ x % low * 2 ^ k → x / low < 2 ^ k → made ≡ x % low * 2 ^ k + x / low
    → made ≡ bit_or (x / low) moved
exchanged x low k made moved up fits parts = grind (arith, common_steps, or_shifted, or_comm, bit_or)

pub turned_32 : (x : ℕ) → x < 2 ^ 64 → bytes_of x 4 5 6 7 0 1 2 3 ≡ rotate_right w64 x 32
turned_32 x h =
    exchanged x (2 ^ 32) 32 (bytes_of x 4 5 6 7 0 1 2 3) (x * 2 ^ 32 % 2 ^ 64) (omega arith) (omega arith) (omega arith)

pub turned_24 : (x : ℕ) → x < 2 ^ 64 → bytes_of x 3 4 5 6 7 0 1 2 ≡ rotate_right w64 x 24
turned_24 x h =
    exchanged x (2 ^ 24) 40 (bytes_of x 3 4 5 6 7 0 1 2) (x * 2 ^ 40 % 2 ^ 64) (omega arith) (omega arith) (omega arith)

pub turned_16 : (x : ℕ) → x < 2 ^ 64 → bytes_of x 2 3 4 5 6 7 0 1 ≡ rotate_right w64 x 16
turned_16 x h =
    exchanged x (2 ^ 16) 48 (bytes_of x 2 3 4 5 6 7 0 1) (x * 2 ^ 48 % 2 ^ 64) (omega arith) (omega arith) (omega arith)

-- eight bytes of word i of z as a word
abbrev pub picked : List ℕ → ℕ → ℕ → ℕ → ℕ → ℕ → ℕ → ℕ → ℕ → ℕ → ℕ
picked z i a b c d e f g h =
    word_of (slice_index z (8 * i + a)) (slice_index z (8 * i + b)) (slice_index z (8 * i + c))
    (slice_index z (8 * i + d)) (slice_index z (8 * i + e)) (slice_index z (8 * i + f)) (slice_index z (8 * i + g))
    (slice_index z (8 * i + h))

-- in n lanes: r has the words of the bytes u, which are those of z in an order in which words turn by k, and z has
-- the bytes of the words w, which are those of x xor y
pub words_turned : (n a b c d e f g h k : ℕ) (x y w z u r : List ℕ)
    → ((v : ℕ) → v < 2 ^ 64 → bytes_of v a b c d e f g h ≡ rotate_right w64 v k)
    → (a < 8) × (b < 8) × (c < 8) × (d < 8) × (e < 8) × (f < 8) × (g < 8) × (h < 8)
    → ((i j : ℕ) → i < n → j < 8 → slice_index z (8 * i + j) ≡ slice_index w i / 256 ^ j % 256)
    → ((i : ℕ) → i < n → slice_index w i < 2 ^ 64)
    → ((i : ℕ) → i < n → slice_index w i ≡ bit_xor (slice_index x i) (slice_index y i))
    → ((i : ℕ) → i < n → number_l 256 (chunk (8 * i) 8 u) ≡ picked z i a b c d e f g h)
    → ((i : ℕ) → i < n → slice_index r i ≡ number_l 256 (chunk (8 * i) 8 u))
    → (i : ℕ) → i < n → slice_index r i ≡ rotate_right w64 (bit_xor (slice_index x i) (slice_index y i)) k
words_turned n a b c d e f g h k x y w z u r turns within bytes fit lanes moved words i l = grind (arith, slice_index)
