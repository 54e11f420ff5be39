use Rattle.std.proofs.Common.{refl, arith}
use Rattle.std.proofs.lemmas.Grind.{common_steps}
use Rattle.source.proofs.Fronting.{Passes-trans}
use Rattle.source.proofs.Taking.{Gives-trans}
use Rattle.source.proofs.parts.output_in_parts.Goals as goal

pub take_part-requires-clause-chunks : goal.take_part-requires-clause-chunks
take_part-requires-clause-chunks g c = (54, refl)

pub returns-in_err-part-clause-gave : goal.returns-in_err-part-clause-gave
returns-in_err-part-clause-gave g c =
    let passed = Passes-trans _ _ _ _ c.fill.ensures.passed c.take_part.ensures.passed in
    let gave = Gives-trans _ _ _ (c.fill.ensures.passed.given, c.fill.ensures.passed.inner)
    (c.take_part.ensures.passed.given, c.take_part.ensures.passed.inner) in
    grind (arith, common_steps, passed.lent, gave)
