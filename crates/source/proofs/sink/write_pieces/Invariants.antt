use Rattle.std.proofs.Common.{drop}
use Rattle.source.specs.Pumped.{joined}
use Rattle.source.proofs.Writing.{Writing}
use Rattle.source.proofs.sink.write_pieces.Given as goal

abbrev pub invariant-loop-piece : goal.invariant-loop-piece
invariant-loop-piece g l = record {
  progress : Writing (g.W.Sink.shown l.initial.out) (g.W.Sink.shown l.out) (joined l.pieces)
      (joined (drop l.piece-index l.pieces));
}
