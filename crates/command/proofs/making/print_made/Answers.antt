use Rattle.std.proofs.Common.{ap, refl}
use Rattle.std.specs.Prelude.{option_map}
use Rattle.command.proofs.Answering.{said_failed, same_bytes}
use Rattle.command.proofs.making.print_made.Goals as goal

pub returns-in_err-write_beside-clause-said : goal.returns-in_err-write_beside-clause-said
returns-in_err-write_beside-clause-said g c stretch =
    rw (ap (option_map (λ tag. tag.now)) c.in_default.is)
    (said_failed _ 0 _ _ _ c.from_residual.ensures.1 c.in_err-write_beside.ensures)

pub returns-in_default-clause-said : goal.returns-in_default-clause-said
returns-in_default-clause-said g c stretch =
    rw (ap (option_map (λ tag. tag.now)) c.in_default.is) (refl, c.in_ok-write_beside.ensures)

pub returns-clause-said : goal.returns-clause-said
returns-clause-said g c stretch =
    rw (
      ap (option_map (λ tag. tag.now)) c.in-Some.is,
      same_bytes c.is_made.result _ c.in-Some.digest.now
          c.is_made.ensures,
    ) c.print_verdict.ensures.said
