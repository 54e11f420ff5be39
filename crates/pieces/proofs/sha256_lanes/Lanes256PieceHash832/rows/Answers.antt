use Rattle.std.proofs.Common.{◌∙◌, arith}
use Rattle.std.proofs.lemmas.List.{take_all}
use Rattle.pieces.proofs.sha256_lanes.Lanes256PieceHash832.rows.Goals as goal

pub returns-clause-value : goal.returns-clause-value
returns-clause-value c = λ i lt.
    take_all 32 _ (omega (arith, c.sha256_rows.ensures.whole i lt)) ∙ c.sha256_rows.ensures.value i lt
