-- What stands before the first space of a core is a word, digits or a label: a word has no byte that a line
-- treats otherwise.
use Rattle.hashes.specs.declared.alg.Alg.TheVariants.{Blake2b, Blake2s}
use Rattle.hashes.specs.Kinds.{alg_kind, longest}
use Rattle.sumlist.proofs.Common.{◌%◌, ◌&&◌, ◌*◌, ◌++◌, ◌+◌, ◌<◌, ◌^◌, ◌∷◌, ◌≡◌, ◌≢◌, ◌≤◌, Alg, All, All-append}
use Rattle.sumlist.proofs.Common.{All-cons, All-nil, All-weaker, IsInRange, IsLabel, Kind, List, Ok, [], arith}
use Rattle.sumlist.proofs.Common.{codes, decimal, decode_of, decode_of-ok, eqb, false, label_of, leb, nat_tests}
use Rattle.sumlist.proofs.Common.{refl, text, true, ℕ}
use Rattle.std.proofs.lemmas.Fmt.{decimal_by_steps}
use Rattle.std.proofs.lemmas.List.Sums.{AllPass-from_list_all}
use Rattle.std.specs.List.{list_all}
use Rattle.std.specs.Prelude.{not}
use Rattle.hex.specs.Hex.{is_hex_digit}
use Rattle.sumlist.specs.inside.Cut.{HasNo}

-- above a space, `#` and `*`, and no backslash
abbrev pub InWord : ℕ → Type 0
InWord c = (45 ≤ c) × (c ≢ 92)

abbrev pub IsWord : List ℕ → Type 0
IsWord xs = All InWord xs

-- ---- what is a word

literal : (text : List ℕ) → list_all (λ c. leb 45 c && not (eqb c 92)) text ≡ true → IsWord text
literal text h = All-weaker (λ c. leb 45 c && not (eqb c 92) ≡ true) InWord (λ c t. grind (arith, nat_tests)) text
    (AllPass-from_list_all _ text h)

one_digit : (d : ℕ) → d < 10 → IsWord ((48 + d) ∷ [])
one_digit d small = All-cons InWord (48 + d) [] (omega arith, λ e. omega (arith, small, e)) (All-nil InWord)

pub decimal_word : (n : ℕ) → n < 2 ^ 64 → IsWord (decimal n)
decimal_word = decimal_by_steps (λ m ds. IsWord ds) one_digit
    (λ m ds l h. All-append InWord ds ((48 + m % 10) ∷ []) h (one_digit (m % 10) (omega arith)))

numbered : (front : List ℕ) (n : ℕ) → n ≤ 64 → IsWord front → IsWord (front ++ decimal (8 * n))
numbered front n fits h = All-append InWord front _ h (decimal_word (8 * n) (omega (arith, fits)))

-- what holds of each label holds of the one of an algorithm
pub by_label : (P : List ℕ → Alg → Type 0) → ((k : Kind) → P (label_of (longest k)) (longest k))
    → ((n : ℕ) → IsInRange (Blake2b n) → P (codes "BLAKE2b-" ++ decimal (8 * n)) (Blake2b n))
    → ((n : ℕ) → IsInRange (Blake2s n) → P (codes "BLAKE2s-" ++ decimal (8 * n)) (Blake2s n))
    → (l : List ℕ) (a : Alg) → IsInRange a → IsLabel l a → P l a
by_label P whole b c l a r e = let one = whole (alg_kind a) in grind (arith, nat_tests)

pub label_word : (l : List ℕ) (a : Alg) → IsInRange a → IsLabel l a → IsWord l
label_word = by_label (λ l a. IsWord l) (λ k. literal (label_of (longest k)) (grind arith))
    (λ n r. numbered (codes "BLAKE2b-") n r.1 (literal (codes "BLAKE2b-") refl))
    (λ n r. numbered (codes "BLAKE2s-") n (omega (arith, r.1)) (literal (codes "BLAKE2s-") refl))

pub digits_word : (digits tag : List ℕ) → decode_of digits ≡ Ok tag → IsWord digits
digits_word digits tag e = All-weaker (λ c. is_hex_digit c ≡ true) InWord (λ c h. grind (arith, nat_tests)) digits
    (decode_of-ok digits tag e).1

-- ---- what a word is not

abbrev pub NotSpace : ℕ → Type 0
NotSpace x = eqb x 32 ≡ false

pub no_space : (word : List ℕ) → IsWord word → HasNo 32 word
no_space word w = All-weaker InWord NotSpace (λ c h. let above = h.0 in grind (arith, nat_tests)) word w
