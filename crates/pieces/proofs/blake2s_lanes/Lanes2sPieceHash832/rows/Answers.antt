use Rattle.std.proofs.Common.{arith}
use Rattle.words.specs.Blake2.{blake2s}
use Rattle.words.proofs.LaneLemmas.{below_eight}
use Rattle.pieces.proofs.PieceChains.{digest_of}
use Rattle.pieces.proofs.blake2s_lanes.Lanes2sPieceHash832.rows.Goals as goal

pub returns-clause-value : goal.returns-clause-value
returns-clause-value c =
    below_eight _
    (digest_of blake2s _ _ _ _ _ c.args.self.now.begun c.bytes32.ensures.written
    (c.final_values-values.ensures 0 (omega arith)))
    (digest_of blake2s _ _ _ _ _ c.args.self.now.begun c.bytes32-2.ensures.written
    (c.final_values-values.ensures 1 (omega arith)))
    (digest_of blake2s _ _ _ _ _ c.args.self.now.begun c.bytes32-3.ensures.written
    (c.final_values-values.ensures 2 (omega arith)))
    (digest_of blake2s _ _ _ _ _ c.args.self.now.begun c.bytes32-4.ensures.written
    (c.final_values-values.ensures 3 (omega arith)))
    (digest_of blake2s _ _ _ _ _ c.args.self.now.begun c.bytes32-5.ensures.written
    (c.final_values-values.ensures 4 (omega arith)))
    (digest_of blake2s _ _ _ _ _ c.args.self.now.begun c.bytes32-6.ensures.written
    (c.final_values-values.ensures 5 (omega arith)))
    (digest_of blake2s _ _ _ _ _ c.args.self.now.begun c.bytes32-7.ensures.written
    (c.final_values-values.ensures 6 (omega arith)))
    (digest_of blake2s _ _ _ _ _ c.args.self.now.begun c.bytes32-8.ensures.written
    (c.final_values-values.ensures 7 (omega arith)))
