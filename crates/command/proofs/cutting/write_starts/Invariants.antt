use Rattle.std.proofs.Common.{◌-◌}
use Rattle.source.proofs.Writing.{Writing}
use Rattle.command.specs.inside.Cutting.{start_lines}
use Rattle.command.proofs.Starting.{lines_from}
use Rattle.command.proofs.cutting.write_starts.Given as goal

abbrev pub invariant-loop-number : goal.invariant-loop-number
invariant-loop-number g l = record {
  progress : Writing (g.W.Sink.shown l.initial.out) (g.W.Sink.shown l.out) (start_lines l.chunks l.count)
      (lines_from l.chunks l.number (l.count - l.number));
}
