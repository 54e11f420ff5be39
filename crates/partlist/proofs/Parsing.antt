-- What a line that tells a part comes to, word after word.
use Rattle.std.proofs.lemmas.Grind.{common_steps}
use Rattle.std.proofs.Common.{◌≡◌, ℕ, ◌<◌, ◌^◌, List, ◌∷◌, ◌++◌, refl, sym, ap, ◌∙◌, arith, codes, length, Result, Ok}
use Rattle.std.proofs.Common.{Err, IsOk, IfOk, ◌↔◌, MatchOption}
use Rattle.std.proofs.lemmas.Bool.{false≢true}
use Rattle.std.proofs.lemmas.List.{append_cancel_left}
use Rattle.std.specs.Fmt.{decimal}
use Rattle.hex.specs.Hex.{IsBytes, decode_sized, encode_lower}
use Rattle.hex.proofs.HexLemmas.{decode_sized-encode_lower}
use Rattle.std.specs.Result.{result_ok}
use Rattle.b3.specs.Parts.{IsPlacedAt}
use Rattle.b3.specs.declared.row.PartValue.{PartValue}
use Rattle.words.specs.Words.{words}
use Rattle.partlist.specs.Laws.{OnePart}
use Rattle.partlist.specs.PartLine.{LineTells, part_line}
use Rattle.partlist.proofs.Spelling.{cut_number_once}

pub first_fits : (line : List ℕ) (first len : ℕ) (value : List ℕ) → LineTells line first len value → first < 2 ^ 64
first_fits line first len value t = let bound = t.placed.1 in omega (arith, bound)

pub len_fits : (line : List ℕ) (first len : ℕ) (value : List ℕ) → LineTells line first len value → len < 2 ^ 64
len_fits line first len value t = let bound = t.placed.1 in omega (arith, bound)

-- after the head
pub told_first : (line rest : List ℕ) (first len : ℕ) (value : List ℕ) → LineTells line first len value
    → line ≡ codes "sums-part-1 blake3 " ++ rest
    → rest ≡ decimal first ++ 32 ∷ (decimal len ++ 32 ∷ encode_lower value)
told_first line rest first len value t e = append_cancel_left (codes "sums-part-1 blake3 ") _ _ (sym e ∙ t.text)

-- after the first number
pub told_len : (line rest after : List ℕ) (n first len : ℕ) (value : List ℕ) → LineTells line first len value
    → line ≡ codes "sums-part-1 blake3 " ++ rest → n < 2 ^ 64 → rest ≡ decimal n ++ 32 ∷ after
    → (n ≡ first) × (after ≡ decimal len ++ 32 ∷ encode_lower value)
told_len line rest after n first len value t e h f =
    cut_number_once n first after _ h (first_fits line first len value t)
    (sym f ∙ told_first line rest first len value t e)

-- after the second
pub told_value : (line rest after digits : List ℕ) (n k first len : ℕ) (value : List ℕ) → LineTells line first len value
    → line ≡ codes "sums-part-1 blake3 " ++ rest → n < 2 ^ 64 → rest ≡ decimal n ++ 32 ∷ after
    → k < 2 ^ 64 → after ≡ decimal k ++ 32 ∷ digits
    → (n ≡ first) × ((k ≡ len) × (digits ≡ encode_lower value))
told_value line rest after digits n k first len value t e h f i g = grind (arith, common_steps, told_len, cut_number_once, len_fits)

moved : (line v : List ℕ) (a b c d : ℕ) → a ≡ b → c ≡ d → LineTells line b d v → LineTells line a c v
moved line v a b c d e f t = rw (e, f) t

-- the part that the numbers and the value of a line make, or none where it cannot stand there
pub told_part : {E : Type 0} (r : Result PartValue E) (line bytes : List ℕ) (first len : ℕ)
    → (IsOk r ↔ IsPlacedAt first len) → IfOk r (λ p. p.first_chunk ≡ first) → IfOk r (λ p. p.len ≡ len)
    → IfOk r (λ p. p.value ≡ words 4 8 bytes) → IsBytes bytes → length bytes ≡ 32
    → line ≡ part_line first len bytes
    → ((f l : ℕ) (v : List ℕ) → LineTells line f l v → (first ≡ f) × (len ≡ l))
    → MatchOption (result_ok r) ((f l : ℕ) (v : List ℕ) → LineTells line f l v → ⊥)
    (λ p. (v : List ℕ) × LineTells line p.first_chunk p.len v × (p.value ≡ words 4 8 v))
told_part (Ok p) line bytes first len placed f l w are_bytes sized text same = (
  bytes,
  moved line bytes _ _ _ _ f l
      (record { placed = placed.0 refl; bytes = are_bytes; sized = sized; text = text }),
  w,
)
told_part (Err e) line bytes first len placed f l w are_bytes sized text same =
    λ a b v t. let is = same a b v t in false≢true (placed.1 (rw (is.0, is.1) t.placed))

value_once : (v w : List ℕ) → IsBytes v → IsBytes w → length v ≡ 32 → length w ≡ 32
    → encode_lower v ≡ encode_lower w → v ≡ w
value_once v w p q m n e =
    let same = sym (decode_sized-encode_lower v 32 m p) ∙ ap (λ t. decode_sized t 32) e
    ∙ decode_sized-encode_lower w 32 n q in
    cc

pub one_meaning : OnePart
one_meaning line a b c d v w t u = grind (arith, common_steps, cut_number_once, first_fits, append_cancel_left, len_fits, value_once)
