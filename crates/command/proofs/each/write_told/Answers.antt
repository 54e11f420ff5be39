use Rattle.std.proofs.Common.{◌≡◌, ◌∙◌, ◌∷◌, ◌++◌, [], List, ℕ, ap, append_assoc, append-nil, subst}
use Rattle.std.specs.Fmt.{decimal}
use Rattle.source.specs.Written.{Writes}
use Rattle.source.proofs.Writing.{Failed-more, Writes-after, Writes-exit}
use Rattle.sumlist.specs.Report.{verdict_text}
use Rattle.command.proofs.each.write_told.Goals as goal

pieces : (first len number count verdict : List ℕ) → number ≡ first → count ≡ len
    → (number ++ 32 ∷ (count ++ [])) ++ verdict ≡ first ++ 32 ∷ (len ++ verdict)
pieces first len number count verdict p q = rw (p, q) (append_assoc first (32 ∷ (len ++ [])) verdict
    ∙ ap (λ (l : List ℕ). first ++ 32 ∷ (l ++ verdict)) (append-nil len))

pub returns-in_err-write_pieces : goal.returns-in_err-write_pieces
returns-in_err-write_pieces g c =
    subst (Writes c.from_residual.result _ _) (pieces _ _ _ _ (verdict_text c.args.verdict)
    (c.as_bytes-first.ensures.value ∙ c.format.ensures.text ∙ ap decimal c.first_chunk.ensures)
    (c.as_bytes.ensures.value ∙ c.format-2.ensures.text ∙ ap decimal c.len.ensures))
    (Writes-exit _ _ _ _ c.from_residual.ensures.0 (Failed-more _ _ _ (verdict_text c.args.verdict)
    c.in_err-write_pieces.ensures))

pub returns : goal.returns
returns g c =
    subst (Writes c.write_verdict.result _ _) (pieces _ _ _ _ (verdict_text c.args.verdict)
    (c.as_bytes-first.ensures.value ∙ c.format.ensures.text ∙ ap decimal c.first_chunk.ensures)
    (c.as_bytes.ensures.value ∙ c.format-2.ensures.text ∙ ap decimal c.len.ensures))
    (Writes-after _ _ _ _ _ _ c.in_ok-write_pieces.ensures c.write_verdict.ensures)
