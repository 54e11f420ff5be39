use Rattle.std.proofs.Common.{drop, length}
use Rattle.std.specs.List.{flat_map}
use Rattle.std.specs.Str.{chars}
use Rattle.source.proofs.Writing.{Writing}
use Rattle.command.specs.Visible.{visible, visible_char}
use Rattle.command.proofs.visible.write_visible.Given as goal

abbrev pub invariant-loop-character : goal.invariant-loop-character
invariant-loop-character g l = record {
  progress : Writing (g.W.Sink.shown l.initial.out) (g.W.Sink.shown l.out) (visible l.name)
      (flat_map visible_char (drop (length l.yielded) (chars l.name)));
}
