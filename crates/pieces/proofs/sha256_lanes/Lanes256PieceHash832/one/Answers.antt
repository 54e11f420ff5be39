use Rattle.std.proofs.Common.{arith, ◌∙◌}
use Rattle.std.proofs.lemmas.List.{take_all}
use Rattle.pieces.proofs.sha256_lanes.Lanes256PieceHash832.one.Goals as goal

pub returns-clause-value : goal.returns-clause-value
returns-clause-value c = take_all 32 c.digest256.result (omega arith) ∙ c.digest256.ensures
