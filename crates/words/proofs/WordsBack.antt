-- Words read back from their bytes.
use Rattle.std.proofs.Common.{◌≡◌, ℕ, zero, suc, ◌+◌, ◌*◌, ◌^◌, ◌<◌, List, [], ◌∷◌, ◌++◌, length, drop, slice_index}
use Rattle.std.proofs.Common.{refl, sym, ap, ◌∙◌, arith}
use Rattle.std.proofs.lemmas.List.{drop-drop, drop_at}
use Rattle.byteorder.specs.Endian.{little_number, little_bytes}
use Rattle.byteorder.specs.Numbers.{little_number-reads_back}
use Rattle.words.specs.Words.{words, word_bytes}
use Rattle.words.proofs.ReadWords.{words_read}

-- word i of the bytes of words
word_back : (xs : List ℕ) (i : ℕ) → i < length xs → slice_index xs i < 2 ^ 32
    → little_number 4 (drop (4 * i) (word_bytes 4 xs)) ≡ slice_index xs i
unfolding word_bytes
word_back [] i h fits = absurd (omega arith)
word_back (x ∷ xs) zero h fits = little_number-reads_back 4 x (word_bytes 4 xs) fits
word_back (x ∷ xs) (suc i) h fits =
    let at : 4 * suc i ≡ 4 + 4 * i = omega arith in
    let four : length (little_bytes 4 x) ≡ 4 = refl in
    let behind : drop (4 + 4 * i) (little_bytes 4 x ++ word_bytes 4 xs) ≡ drop (4 * i) (word_bytes 4 xs)
    = sym (drop-drop (4 * i) 4 (little_bytes 4 x ++ word_bytes 4 xs))
    ∙ ap (λ (ys : List ℕ). drop (4 * i) ys) (drop_at (little_bytes 4 x) (word_bytes 4 xs) 4 four) in
    rw (at, behind) (word_back xs i (omega arith) fits)

-- the words of the bytes of words
pub words_back : (n : ℕ) (xs : List ℕ) → length xs ≡ n → ((i : ℕ) → i < n → slice_index xs i < 2 ^ 32)
    → words 4 n (word_bytes 4 xs) ≡ xs
words_back n xs len fits = grind (arith, words_read, word_back)
