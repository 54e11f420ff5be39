use Rattle.std.proofs.Common.{arith, ◌∙◌}
use Rattle.std.proofs.lemmas.List.{take_all}
use Rattle.pieces.proofs.sha512_lanes.Lanes512PieceHash464.one.Goals as goal

pub returns-clause-value : goal.returns-clause-value
returns-clause-value c = take_all 64 c.digest512.result (omega arith) ∙ c.digest512.ensures
