use Rattle.source.proofs.Writing.{Writes-exit, Writing-failed, Writing-step, flat_map-drop}
use Rattle.source.proofs.sink.write_pieces.Goals as goal

pub returns-in_err-write_all : goal.returns-in_err-write_all
returns-in_err-write_all g c = Writes-exit _ _ _ _ c.from_residual.ensures.0 (Writing-failed _ _ _ _ _ _ _
    (flat_map-drop _ c.args.pieces.now c.loop-piece.piece-index _ c.loop-piece-test.true)
    c.loop-piece.invariant.progress c.in_err-write_all.ensures)

pub loop-piece-preserved : goal.loop-piece-preserved
loop-piece-preserved g c = record {
  progress = Writing-step _ _ _ _ _ _ _
      (flat_map-drop _ c.args.pieces.now c.loop-piece.piece-index _ c.loop-piece-test.true)
      c.loop-piece.invariant.progress c.in_ok-write_all.ensures;
}
