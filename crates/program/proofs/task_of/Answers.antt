use Rattle.request.specs.CommandLine.{given_of}
use Rattle.program.proofs.task_of.Goals as goal

pub returns-in-Ok-of : goal.returns-in-Ok-of
returns-in-Ok-of c words read = (given_of c.in-Ok.request, rw c.in-Ok.is at read, c.in-Ok-of.ensures)

pub returns-in-Err-Usage : goal.returns-in-Err-Usage
returns-in-Err-Usage c words read =
    (given_of c.in-Ok.request, rw c.in-Ok.is at read, rw c.in-Err-Usage.field-0-is at c.in-Err-Usage.ensures)
