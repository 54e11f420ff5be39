use Rattle.std.proofs.Common.{refl}
use Rattle.command.specs.inside.Printing.{line_end}
use Rattle.command.proofs.Deriving.{derives_printed, derives_stopped}
use Rattle.command.proofs.Printing.{unwritten}
use Rattle.command.proofs.session.Session.print_key.Goals as goal
use Rattle.task.specs.inside.Views.{derivation_shown}

pub returns-in_err-print_bytes-clause-run : goal.returns-in_err-print_bytes-clause-run
returns-in_err-print_bytes-clause-run g c =
    let told = c.in_err-print_bytes in
    derives_stopped (derivation_shown c.args.derivation.now) c.args.is_raw c.args.material.now (Unit {0})
    _ _ told.field-0.0 _ _ _ _ _ _ _
    told.ensures.key told.ensures.read.counted c.from_residual.ensures.1
    c.print_bytes.ensures.read.input_failures

pub returns-in_err-write_all-clause-run : goal.returns-in_err-write_all-clause-run
returns-in_err-write_all-clause-run g c =
    let printed = c.in_ok-print_bytes in
    derives_printed (derivation_shown c.args.derivation.now) c.args.is_raw c.args.material.now _ _ tt _ _ _ _ _ _ _ _
    printed.ensures.key printed.ensures.read.counted
    (unwritten (line_end c.args.is_raw) _ _ _ c.from_residual-in_err-write_all.ensures.1
    (rw c.line_end.ensures at c.in_err-write_all.ensures))
    c.print_bytes.ensures.read.input_failures

pub returns-clause-run : goal.returns-clause-run
returns-clause-run g c =
    let printed = c.in_ok-print_bytes in
    derives_printed (derivation_shown c.args.derivation.now) c.args.is_raw c.args.material.now _ _ tt _ _ _ _ _ _ _ _
    printed.ensures.key printed.ensures.read.counted (refl, rw c.line_end.ensures at c.in_ok-write_all.ensures)
    c.print_bytes.ensures.read.input_failures
