use Rattle.std.specs.Prelude.{◌≡◌, ◌+◌, ◌-◌, ◌^◌, ◌≤◌, ◌↔◌, length}
use Rattle.b3.specs.Bytes.{slice}
use Rattle.b3.specs.inside.Output.{output_position, output_root}
use Rattle.command.proofs.making.is_output.Given as goal

abbrev pub invariant-loop-rest : goal.invariant-loop-rest
invariant-loop-rest l = record {
  within : output_position l.output + length l.rest ≤ 2 ^ 64 - 1;
  root : output_root l.output ≡ output_root l.initial.output;
  same : (slice (output_root l.initial.output) (output_position l.output) (length l.rest) ≡ l.rest)
      ↔ (slice (output_root l.initial.output) (output_position l.initial.output) (length l.wanted) ≡ l.wanted);
}

abbrev pub decreases-loop-rest : goal.decreases-loop-rest
decreases-loop-rest l = length l.rest
