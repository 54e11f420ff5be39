use Rattle.std.proofs.lemmas.Grind.{common_steps}
use Rattle.std.proofs.Common.{refl, arith}
use Rattle.b3.proofs.Powers.{ones_pow}
use Rattle.command.proofs.Opening.{opens_beside}
use Rattle.command.proofs.Reading.{told_always}
use Rattle.command.proofs.VerifiedNames.{verified_by, verified_unbuffered, verified_unopened}
use Rattle.command.proofs.session.Session.print_verified.Goals as goal

pub part_buffer-requires : goal.part_buffer-requires
part_buffer-requires g c = (ones_pow 10, omega arith)

pub returns-in_err-run-clause-run : goal.returns-in_err-run-clause-run
returns-in_err-run-clause-run g c =
    verified_unbuffered c.args.file.share c.args.parts.now c.args.file.name.now _ _ _ _ _ _ _ _
    c.from_residual.ensures.1 refl refl

pub returns-in_err-list-clause-run : goal.returns-in_err-list-clause-run
returns-in_err-list-clause-run g c =
    verified_unopened c.args.file.share c.args.parts.now c.args.file.name.now _ _ _ _ _ _ _ _ c.in_err-list.field-0.0
    c.in_err-list.ensures.opened c.in_err-list.ensures.counted c.from_residual-in_err-list.ensures.1 refl

pub returns-clause-run : goal.returns-clause-run
returns-clause-run g c =
    verified_by c.args.file.share c.args.parts.now c.args.file.name.now _ _ _ _ _ _ _ _ _ _ _ _ _
    (g.T.F.Feed.remaining c.in_ok-list.list) c.in_ok-list.ensures.opened c.in_ok-list.ensures.counted
    c.in_ok-list.ensures.fresh (rw c.in_ok-list.ensures.kept at c.verify_by-answer.ensures.run)
    c.close.ensures.counted

pub returns-in_err-run-clause-opens : goal.returns-in_err-run-clause-opens
returns-in_err-run-clause-opens g c = grind (arith, common_steps, told_always)

pub returns-in_err-list-clause-opens : goal.returns-in_err-list-clause-opens
returns-in_err-list-clause-opens g c = grind (arith, common_steps, told_always)

pub returns-clause-opens : goal.returns-clause-opens
returns-clause-opens g c = grind (arith, common_steps, opens_beside)
