use Rattle.std.proofs.Common.{map}
use Rattle.program.proofs.Whole.{read_as}
use Rattle.program.proofs.run.Goals as goal

pub returns : goal.returns
returns g c =
    let words = map (λ w. w.now) c.args.words.now in
    c.run_task.ensures words
    (c.task_of.ensures words (read_as words c.line.result c.line.ensures.request c.line.ensures.fault))
