use Rattle.std.proofs.Common.{◌∙◌, sym}
use Rattle.request.specs.CommandLine.{given_of}
use Rattle.task.proofs.Beginnings.{digits_alone, digits_behind}
use Rattle.task.proofs.hashing.digits_of.Goals as goal

pub returns-in-Some : goal.returns-in-Some
returns-in-Some c =
    digits_behind (given_of c.args.request.now) c.args.text.now c.as_bytes.result.now c.algorithm_name.result.now
    c.in-Some.digits.now c.as_bytes.ensures.value c.algorithm_name.ensures c.in-Some.ensures

pub returns-in-None : goal.returns-in-None
returns-in-None c = c.as_bytes-in-None.ensures.value ∙ sym c.as_bytes.ensures.value
    ∙ digits_alone (given_of c.args.request.now) c.args.text.now c.as_bytes.result.now c.algorithm_name.result.now
    c.as_bytes.ensures.value c.algorithm_name.ensures c.in-None.ensures
