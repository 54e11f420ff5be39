-- The words of a line are cut out of it in one way.
use Rattle.std.proofs.Common.{◌≡◌, ◌∙◌, ℕ, ◌<◌, ◌^◌, List, ◌∷◌, ◌++◌, ap, sym}
use Rattle.std.specs.Fmt.{decimal}
use Rattle.std.specs.Str.{IsUtf8}
use Rattle.std.proofs.lemmas.Fmt.{IsAscii-decimal, decimal_injective}
use Rattle.std.proofs.lemmas.Option.{none-some, same_Some}
use Rattle.std.proofs.lemmas.Str.{IsUtf8-from_ascii}
use Rattle.sumlist.specs.inside.Cut.{HasNo}
use Rattle.sumlist.specs.inside.Reading.{cut}
use Rattle.sumlist.proofs.Reading.{cut-at, cut-none}
use Rattle.sumlist.proofs.Words.{decimal_word, no_space}

pub IsUtf8-decimal : (n : ℕ) → n < 2 ^ 64 → IsUtf8 (decimal n)
IsUtf8-decimal n h = IsUtf8-from_ascii (decimal n) (IsAscii-decimal n h)

decimal_free : (n : ℕ) → n < 2 ^ 64 → HasNo 32 (decimal n)
decimal_free n h = no_space (decimal n) (decimal_word n h)

-- a text without a space begins with no number and a space
pub none_cut : (n : ℕ) (text rest : List ℕ) → n < 2 ^ 64 → HasNo 32 text → text ≡ decimal n ++ 32 ∷ rest → ⊥
none_cut n text rest h none e =
    none-some (decimal n, rest) (sym (cut-none text none) ∙ ap cut e ∙ cut-at (decimal n) rest (decimal_free n h))

-- what stands before the first space of a number and a rest is the number
pub cut_decimal : (n : ℕ) (front rest x : List ℕ) → n < 2 ^ 64 → front ++ 32 ∷ rest ≡ decimal n ++ 32 ∷ x
    → HasNo 32 front → (front ≡ decimal n) × (rest ≡ x)
cut_decimal n front rest x h e free =
    let same = same_Some (front, rest) (decimal n, x)
    (sym (cut-at front rest free) ∙ ap cut e ∙ cut-at (decimal n) x (decimal_free n h)) in
    (ap (λ p. p.0) same, ap (λ p. p.1) same)

-- a number before a space is read in one way, and so is what stands after it
pub cut_number_once : (n k : ℕ) (rest x : List ℕ) → n < 2 ^ 64 → k < 2 ^ 64
    → decimal n ++ 32 ∷ rest ≡ decimal k ++ 32 ∷ x → (n ≡ k) × (rest ≡ x)
cut_number_once n k rest x hn hk e =
    let cut = cut_decimal k (decimal n) rest x hk e (decimal_free n hn) in
    (decimal_injective n k hn hk cut.0, cut.1)
