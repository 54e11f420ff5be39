use Rattle.std.proofs.Common.{◌∙◌, arith}
use Rattle.std.proofs.lemmas.List.{take_all}
use Rattle.pieces.proofs.sha512_lanes.Lanes512PieceHash464.rows.Goals as goal

pub returns-clause-value : goal.returns-clause-value
returns-clause-value c = λ i lt.
    take_all 64 _ (omega (arith, c.sha512_rows.ensures.whole i lt)) ∙ c.sha512_rows.ensures.value i lt
