use Rattle.std.proofs.Common.{length}
use Rattle.source.proofs.Writing.{Writing}
use Rattle.source.proofs.sink.write_all.Given as goal

abbrev pub invariant-loop-rest : goal.invariant-loop-rest
invariant-loop-rest g l = record {
  progress : Writing (g.W.Sink.shown l.initial.out) (g.W.Sink.shown l.out) l.bytes l.rest;
}

abbrev pub decreases-loop-rest : goal.decreases-loop-rest
decreases-loop-rest g l = length l.rest
