use Rattle.std.proofs.Common.{arith, ◌∙◌}
use Rattle.source.proofs.Joining.{joined-drop}
use Rattle.source.proofs.Taking.{Takes-more}
use Rattle.source.proofs.digests.take_each.Goals as goal

pub loop-piece-preserved : goal.loop-piece-preserved
loop-piece-preserved g c =
    let before = c.loop-piece.invariant in
    let update = c.in_ok-update.ensures in
    record {
      front = _;
      whole = joined-drop _ _ c.args.pieces.now c.loop-piece.piece-index _ (omega arith) before.whole;
      takes = Takes-more g.A.Absorb.holds g.A.Absorb.room_left _ _ _ _ _ before.takes update.appended update.room;
      parameters = update.kept ∙ before.parameters;
    }
