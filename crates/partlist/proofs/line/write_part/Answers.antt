use Rattle.std.proofs.Common.{◌≡◌, ◌++◌, ◌∷◌, ◌∙◌, [], ap, List, ℕ, append_assoc, codes, subst}
use Rattle.std.specs.Fmt.{decimal}
use Rattle.source.specs.Written.{Writes}
use Rattle.partlist.proofs.line.write_part.Goals as goal

pieces : (first len value number count digits : List ℕ) → number ≡ first → count ≡ len → digits ≡ value
    → codes "sums-part-1 blake3 " ++ (number ++ 32 ∷ (count ++ 32 ∷ (digits ++ 10 ∷ [])))
    ≡ (codes "sums-part-1 blake3 " ++ (first ++ 32 ∷ (len ++ 32 ∷ value))) ++ 10 ∷ []
pieces first len value number count digits p q r = rw (p, q, r) (simp append_assoc)

pub returns : goal.returns
returns g c = subst (Writes c.write_pieces.result _ _) (pieces _ _ _ _ _ _
    (c.as_bytes-first.ensures.value ∙ c.format.ensures.text ∙ ap decimal c.first_chunk.ensures)
    (c.as_bytes-len.ensures.value ∙ c.format-2.ensures.text ∙ ap decimal c.len.ensures) c.digits_of-digits.ensures)
    c.write_pieces.ensures
