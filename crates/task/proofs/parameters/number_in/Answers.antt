use Rattle.std.proofs.Common.{◌∙◌, Err, ap, arith}
use Rattle.task.proofs.Numbers.{number-parsed, number-refused}
use Rattle.task.proofs.parameters.number_in.Goals as goal

pub returns-in-Ok-clause-value : goal.returns-in-Ok-clause-value
returns-in-Ok-clause-value c =
    c.within.ensures.value ∙ number-parsed _ _ _ c.args.text.now _ c.parse.result c.parse.ensures.value.0 c.in-Ok.is

pub returns-in-Err-clause-value : goal.returns-in-Err-clause-value
returns-in-Err-clause-value c =
    ap Err c.out_of_range.ensures
    ∙ number-refused c.args.least _ _ c.args.text.now c.parse.result _ c.parse.ensures.value.0
    (omega (arith, c.ranges.most)) c.in-Err.is
