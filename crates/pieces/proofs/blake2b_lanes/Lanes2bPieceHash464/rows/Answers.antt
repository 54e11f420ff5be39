use Rattle.std.proofs.Common.{arith}
use Rattle.words.specs.Blake2.{blake2b}
use Rattle.words.proofs.LaneLemmas.{below_four}
use Rattle.pieces.proofs.PieceChains.{digest_of}
use Rattle.pieces.proofs.blake2b_lanes.Lanes2bPieceHash464.rows.Goals as goal

pub returns-clause-value : goal.returns-clause-value
returns-clause-value c =
    below_four _
    (digest_of blake2b _ _ _ _ _ c.args.self.now.begun c.bytes64.ensures
    (c.final_values-values.ensures 0 (omega arith)))
    (digest_of blake2b _ _ _ _ _ c.args.self.now.begun c.bytes64-2.ensures
    (c.final_values-values.ensures 1 (omega arith)))
    (digest_of blake2b _ _ _ _ _ c.args.self.now.begun c.bytes64-3.ensures
    (c.final_values-values.ensures 2 (omega arith)))
    (digest_of blake2b _ _ _ _ _ c.args.self.now.begun c.bytes64-4.ensures
    (c.final_values-values.ensures 3 (omega arith)))
