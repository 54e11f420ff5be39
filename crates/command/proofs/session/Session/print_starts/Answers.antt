use Rattle.std.proofs.Common.{refl}
use Rattle.command.specs.inside.Cutting.{start_lines}
use Rattle.command.proofs.Starting.{starts_printed, starts_stopped}
use Rattle.command.proofs.Printing.{unwritten}
use Rattle.command.proofs.session.Session.print_starts.Goals as goal

pub returns-in_err-count-clause-run : goal.returns-in_err-count-clause-run
returns-in_err-count-clause-run g c =
    let told = c.in_err-count in
    starts_stopped c.args.parts.chunks c.args.name.now _ _ told.field-0.0 _ _ _ _ _ _ _
    (told.ensures.count, told.ensures.counted) c.from_residual.ensures.1 refl refl

pub returns-in_err-write_starts-clause-run : goal.returns-in_err-write_starts-clause-run
returns-in_err-write_starts-clause-run g c =
    let found = c.in_ok-count in
    starts_printed c.args.parts.chunks c.args.name.now _ _ found.count _ _ _ _ _ _ _
    (found.ensures.count, found.ensures.counted) refl
    (unwritten (start_lines c.args.parts.chunks found.count) _ _ _ c.from_residual-in_err-write_starts.ensures.1
    c.in_err-write_starts.ensures)

pub returns-clause-run : goal.returns-clause-run
returns-clause-run g c =
    let found = c.in_ok-count in
    starts_printed c.args.parts.chunks c.args.name.now _ _ found.count _ _ _ _ _ _ _
    (found.ensures.count, found.ensures.counted) refl (refl, c.in_ok-write_starts.ensures)
