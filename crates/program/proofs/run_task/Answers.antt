use Rattle.std.proofs.Common.{rules}
use Rattle.request.specs.CommandLine.{kind_of}
use Rattle.task.specs.inside.Views.{task_shown}
use Rattle.program.proofs.Whole.{handed_back, run_answered, run_done, run_refused, run_stopped, run_without_memory}
use Rattle.program.proofs.run_task.Goals as goal

pub returns-in-Err-OutOfMemory : goal.returns-in-Err-OutOfMemory
returns-in-Err-OutOfMemory g c words judged =
    run_without_memory words _ _ _ _ _ _ _ _ _ c.tell-in-Err-OutOfMemory.ensures.status
    c.tell-in-Err-OutOfMemory.ensures.told

pub returns-in-Err-Usage : goal.returns-in-Err-Usage
returns-in-Err-Usage g c words judged =
    let given = rw (c.in-Err-Usage.is, c.in-Err-Usage.field-0-is) at judged in
    run_refused words _ _ given.0 _ _ _ _ _ _ _ _ given.1 given.2 c.tell.ensures.status c.tell.ensures.told

pub returns-in-Err-Words : goal.returns-in-Err-Words
returns-in-Err-Words g c words judged =
    run_answered words _ _ (kind_of c.in-Err-Words.error) _ _ _ _ _ _ _ _ _
    (rw (c.in-Err-Words.is, c.in-Err-Words.field-0-is) at judged)
    (rw c.in-Err-Words.error-is at c.print_clap.ensures)

pub returns-in_default : goal.returns-in_default
returns-in_default g c words judged =
    run_without_memory words _ _ _ _ _ _ _ _ _ c.tell-in_default.ensures.status c.tell-in_default.ensures.told

pub returns-in-Ok-do_task : goal.returns-in-Ok-do_task
returns-in-Ok-do_task g c words judged =
    let left = c.do_task.new.session in
    let given = rw c.in-Ok.is at judged in
    handed_back words g.W.Sink.shown g.L.Feed.failure_count g.T.Tree.failure_count g.T.Tree.opens _ _ _ _ _ _ _ _ _
    left.out.now _ left.input.now _ left.tree.now _ (search rules) (search rules) (search rules)
    (run_done words _ _ given.0 (task_shown c.in-Ok.task) _ _ _ _ _ _ _ _ _ _ _ given.1 given.2
    c.in-Ok-do_task.ensures.run)

pub returns-in-Err : goal.returns-in-Err
returns-in-Err g c words judged =
    let left = c.do_task.new.session in
    let given = rw c.in-Ok.is at judged in
    handed_back words g.W.Sink.shown g.L.Feed.failure_count g.T.Tree.failure_count g.T.Tree.opens _ _ _ _ _ _ _ _ _
    left.out.now _ left.input.now _ left.tree.now _ (search rules) (search rules) (search rules)
    (run_stopped words _ _ given.0 (task_shown c.in-Ok.task) c.in-Err.fault _ _ _ _ _ _ _ _ _ _ _ _ given.1 given.2
    c.in-Err.ensures.run c.tell-in-Err.ensures.status c.tell-in-Err.ensures.told)
