use Rattle.std.proofs.Common.{refl}
use Rattle.command.proofs.CutParts.{cut_printed, cut_stopped, told_line}
use Rattle.command.proofs.Printing.{unwritten}
use Rattle.command.proofs.session.Session.print_part.Goals as goal

pub returns-in_err-part-clause-run : goal.returns-in_err-part-clause-run
returns-in_err-part-clause-run g c =
    cut_stopped c.args.place.first c.args.place.chunks c.args.name.now
    _ _ c.in_err-part.field-0.0 _ _ _ _ _ _ _
    (c.in_err-part.ensures.part, c.in_err-part.ensures.counted) c.from_residual.ensures.1 c.part_in.ensures.out

pub returns-in_err-write_part-clause-run : goal.returns-in_err-write_part-clause-run
returns-in_err-write_part-clause-run g c =
    let part = c.in_ok-part.part in
    cut_printed c.args.place.first c.args.place.chunks c.args.name.now
    _ _ part _ _ _ _ _ _ _ _
    (c.in_ok-part.ensures.part, c.in_ok-part.ensures.counted) c.part_in.ensures.out
    (unwritten (told_line part) _ _ _ c.from_residual-in_err-write_part.ensures.1 c.in_err-write_part.ensures)

pub returns-clause-run : goal.returns-clause-run
returns-clause-run g c =
    cut_printed c.args.place.first c.args.place.chunks c.args.name.now
    _ _ c.in_ok-part.part _ _ _ _ _ _ _ _
    (c.in_ok-part.ensures.part, c.in_ok-part.ensures.counted) c.part_in.ensures.out
    (refl, c.in_ok-write_part.ensures)
