use Rattle.std.proofs.lemmas.Grind.{common_steps}
use Rattle.std.proofs.Common.{arith}
use Rattle.std.proofs.KnownBytes.{Appends-nil}
use Rattle.source.proofs.Writing.{Writes-exit, Writing-end, Writing-failed, Writing-step}
use Rattle.command.proofs.Starting.{all_lines, next_line, no_line}
use Rattle.command.proofs.cutting.write_starts.Goals as goal

pub loop-number-init : goal.loop-number-init
loop-number-init g c = grind (arith, common_steps, all_lines, Appends-nil)

pub loop-number-preserved : goal.loop-number-preserved
loop-number-preserved g c = grind (arith, common_steps, Writing-step, next_line)

pub returns-in_err-write_number : goal.returns-in_err-write_number
returns-in_err-write_number g c =
    Writes-exit _ _ _ _ c.from_residual.ensures.0 (Writing-failed _ _ _ _ _ _ _
    (next_line c.args.chunks c.loop-number.number c.args.count c.loop-number-test.true) c.loop-number.invariant.progress
    c.in_err-write_number.ensures)

pub returns : goal.returns
returns g c = grind (arith, common_steps, Writing-end, no_line)
