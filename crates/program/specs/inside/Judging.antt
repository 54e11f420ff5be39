-- What words ask for.
use Rattle.std.specs.Prelude.{◌≡◌, ◌++◌, ⊤, List, Result, Ok, Err}
use Rattle.request.specs.CommandLine.{AreRead, Given, Text, kind_of}
use Rattle.task.specs.Tasks.{asked}
use Rattle.task.specs.declared.tasks.Task.{Task}
use Rattle.task.specs.inside.Views.{task_shown}
use Rattle.program.specs.declared.NoTask.{NoTask}
use Rattle.program.specs.declared.NoTask.TheVariants.{OutOfMemory, Usage, Words}

-- a task, a fault of a setting or of the words, or want of memory
abbrev pub IsJudged : List Text → Result Task NoTask → Type 0
IsJudged words (Ok task) = (given : Given) × AreRead words (Ok given) × (asked given ≡ Ok (task_shown task))
IsJudged words (Err (Usage word complaint)) =
    (given : Given) × AreRead words (Ok given) × (asked given ≡ Err (word.now ++ complaint.now))
IsJudged words (Err (Words e)) = AreRead words (Err (kind_of e))
IsJudged words (Err OutOfMemory) = ⊤
