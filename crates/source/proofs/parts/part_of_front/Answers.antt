use Rattle.std.proofs.Common.{◌*◌, ◌≤◌, length, subst, ◌∙◌, arith, pow_pos}
use Rattle.b3.specs.Parts.{mode_parameters}
use Rattle.b3.specs.Values.{IsValueOf}
use Rattle.source.proofs.Fronting.{Passes-trans}
use Rattle.source.proofs.Parting.{all_taken}
use Rattle.source.proofs.parts.part_of_front.Goals as goal

pub returns-in_err-part-clause-passed : goal.returns-in_err-part-clause-passed
returns-in_err-part-clause-passed g c = Passes-trans _ _ _ _ c.fill.ensures.passed c.take_part.ensures.passed

pub returns-then-ahead-gt0-clause-passed : goal.returns-then-ahead-gt0-clause-passed
returns-then-ahead-gt0-clause-passed g c = Passes-trans _ _ _ _ c.fill.ensures.passed c.take_part.ensures.passed

pub returns-clause-part : goal.returns-clause-part
returns-clause-part g c =
    let taken = c.in_ok-part.ensures.taken in
    let told = c.told.ensures in (
      told.first ∙ taken.first,
      all_taken _ _ _ _ _ taken.bytes _ (IsValueOf (mode_parameters c.args.mode) c.told.result)
          c.in_ok-ahead.ensures.filled.given taken.given (omega arith) taken.end
          (omega (arith, pow_pos c.requires.run.0, c.fill.ensures.length, c.take_part.ensures.length, c.requires.run.1))
          (subst (λ m. IsValueOf (mode_parameters m) c.told.result taken.bytes) taken.mode
          (told.value taken.bytes taken.part)),
    )

pub returns-clause-fits : goal.returns-clause-fits
returns-clause-fits g c =
    let taken = c.in_ok-part.ensures.taken in
    all_taken _ _ _ _ _ taken.bytes _ (λ xs. length xs ≤ 1024 * c.args.chunks) c.in_ok-ahead.ensures.filled.given
    taken.given (omega arith) taken.end
    (omega (arith, pow_pos c.requires.run.0, c.fill.ensures.length, c.take_part.ensures.length, c.requires.run.1))
    (omega (arith, taken.most, taken.part.len))

pub returns-clause-passed : goal.returns-clause-passed
returns-clause-passed g c = Passes-trans _ _ _ _ c.fill.ensures.passed c.take_part.ensures.passed
