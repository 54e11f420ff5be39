use Rattle.std.proofs.Common.{◌≡◌, drop, map}
use Rattle.std.specs.Borrow.{Bor}
use Rattle.request.specs.CommandLine.{Text, given_of}
use Rattle.task.specs.Settings.{absent}
use Rattle.task.proofs.parameters.absent.Given as goal

abbrev pub invariant-loop-word : goal.invariant-loop-word
invariant-loop-word l =
    absent l.complaint (map (λ (w : Bor Text). w.now) (drop l.word-index l.words)) (given_of l.request)
    ≡ absent l.complaint (map (λ (w : Bor Text). w.now) l.words) (given_of l.request)
