-- The first piece of a text ends at its first end, and the other pieces are those of the rest; what is kept of a piece
-- that comes bit by bit.
use Rattle.sumlist.proofs.Common.{◌≡◌, ◌<◌, List, [], ◌∷◌, ◌++◌, length, refl, ap, ◌∙◌, arith, eqb, lines, ℕ}
use Rattle.sumlist.proofs.Common.{Consumes, IfSome, false}
use Rattle.sumlist.proofs.Common.{Option, Some, All-append, append_assoc, IsCut, length-append, nat_tests}
use Rattle.sumlist.proofs.Common.{All-weaker, nil_from_length}
use Rattle.std.specs.Prelude.{Contains}
use Rattle.std.proofs.lemmas.Bool.{eq-eqb, ne_eqb}
use Rattle.std.proofs.lemmas.List.Elements.{All-contains_itself}
use Rattle.std.proofs.lemmas.List.Splits.{slice_split_at, slice_split_none, length-slice_split}
use Rattle.sumlist.specs.Lines.{IsKept, pieces}
use Rattle.sumlist.specs.inside.Cut.{HasNo}
use Rattle.sumlist.specs.inside.Held.{held_after}

pieces-ended : (end : ℕ) (piece rest : List ℕ) → HasNo end piece
    → pieces end (piece ++ end ∷ rest) ≡ piece ∷ pieces end rest
pieces-ended end piece rest h =
    rw (slice_split_at (λ b. eqb b end) piece end rest h (eq-eqb end end refl)) (grind (
      arith,
      length-slice_split (λ b. eqb b end) rest,
    ))

-- what came before belongs to the first piece
pub pieces-cut : (end : ℕ) (text piece rest : List ℕ) → IsCut end text piece rest → (start more : List ℕ)
    → HasNo end start → pieces end (start ++ (text ++ more)) ≡ (start ++ piece) ∷ pieces end (rest ++ more)
pieces-cut end text piece rest cut start more free = rw cut.0 (ap (pieces end) (simp append_assoc)
    ∙ pieces-ended end (start ++ piece) (rest ++ more) (All-append (λ x. eqb x end ≡ false) start piece free cut.1))

pub pieces-last : (end : ℕ) (piece : List ℕ) → 0 < length piece → HasNo end piece
    → pieces end piece ≡ piece ∷ []
pieces-last end piece some h = rw (slice_split_none (λ b. eqb b end) piece h) (grind arith)

pub HasNo-from_none : (c : ℕ) (text : List ℕ) → (Contains text c → ⊥) → HasNo c text
HasNo-from_none c text none = All-weaker (Contains text) _ (λ x some. ne_eqb x c (λ same. none (rw same at some))) text
    (All-contains_itself text)

pub lines-ended : (line rest : List ℕ) → HasNo 10 line → lines (line ++ 10 ∷ rest) ≡ line ∷ lines rest
lines-ended line rest h = pieces-ended 10 line rest h

pub lines-last : (line : List ℕ) → 0 < length line → HasNo 10 line → lines line ≡ line ∷ lines []
lines-last line some h = pieces-last 10 line some h

-- ---- what is kept of a piece

pub IsKept-after : (held : Option (List ℕ)) (front bit : List ℕ) → IsKept held front
    → IsKept (held_after held bit) (front ++ bit)
IsKept-after held front bit h = grind (arith, nat_tests, length-append {A = ℕ})

pub some_kept : (held : Option (List ℕ)) (front : List ℕ) → (held ≡ Some [] → ⊥) → IsKept held front → 0 < length front
some_kept held front apart h = grind (arith, nil_from_length)

-- some was read, and the rest is left
pub IfSome-read : (old new : Option (List ℕ)) (taken : List ℕ) (P : List ℕ → Type 0) → Consumes old new taken
    → ((left : List ℕ) → new ≡ Some left → P (taken ++ left)) → IfSome old P
IfSome-read old new taken P read h = grind arith
