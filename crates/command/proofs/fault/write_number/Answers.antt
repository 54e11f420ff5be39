use Rattle.std.proofs.lemmas.Grind.{common_steps}
use Rattle.std.proofs.Common.{arith}
use Rattle.std.specs.Fmt.{decimal}
use Rattle.source.proofs.Writing.{Failed-after, Failed-more, Writes-after, Writes-exit}
use Rattle.command.proofs.fault.write_number.Goals as goal

pub returns-in_err-write_all-2 : goal.returns-in_err-write_all-2
returns-in_err-write_all-2 g c =
    Writes-exit _ _ _ _ c.from_residual-in_err-write_all-2.ensures.0
    (Failed-after _ _ _ c.args.before.now _ (rw c.as_bytes.ensures.value at c.in_ok-write_all.ensures)
    (Failed-more _ _ (decimal c.args.number) _
    (rw (c.as_bytes-2.ensures.value, c.format.ensures.text) at c.in_err-write_all-2.ensures)))

pub returns : goal.returns
returns g c = grind (arith, common_steps, Writes-after)
