use Rattle.sumlist.proofs.Common.{◌≡◌, ◌∙◌, arith, common_steps, err_from_is_err_and, sym}
use Rattle.sumlist.specs.declared.line.LineFault.TheVariants.{OutOfMemory}
use Rattle.std.proofs.lemmas.Option.{same_Some}
use Rattle.sumlist.proofs.LineCases.{spells_one}
use Rattle.sumlist.proofs.Mapped.{ok_is}
use Rattle.sumlist.proofs.line.read_line.Goals as goal

pub returns-in_err-name-in-Entry : goal.returns-in_err-name-in-Entry
returns-in_err-name-in-Entry c =
    let fault = err_from_is_err_and c.from_residual.result c.from_residual.ensures.1 in
    let failed : c.in_err-name-in-Entry.field-0.0 ≡ OutOfMemory = grind (arith, common_steps) in
    rw (fault.1, fault.2, failed) (_, c.in-Entry.ensures.2)

pub from_parts-requires : goal.from_parts-requires
from_parts-requires c =
    let said = c.in-Entry.ensures in
    let built = rw (ok_is _ _ _ c.in_ok-name-in-Entry.ensures.cases) at c.build_name.ensures in
    let same = same_Some _ _ (sym said.1 ∙ built) in
    (rw same at said.2).is_entry

pub returns-in_ok-name-in-Entry : goal.returns-in_ok-name-in-Entry
returns-in_ok-name-in-Entry c =
    let said = c.in-Entry.ensures in
    let built = rw (ok_is _ _ _ c.in_ok-name-in-Entry.ensures.cases) at c.build_name.ensures in
    let same = same_Some _ _ (sym said.1 ∙ built) in
    let spelled = rw same at said.2 in
    rw c.from_parts.ensures (spelled, (λ f t. spells_one c.args.line.now c.args.kind f _ t spelled))
