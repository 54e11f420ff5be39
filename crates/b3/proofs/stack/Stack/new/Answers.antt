use Rattle.std.proofs.Common.{sym, ◌∙◌}
use Rattle.b3.specs.inside.Runs.{run_cv}
use Rattle.b3.proofs.Subtrees.{subtrees_none}
use Rattle.b3.proofs.stack.Stack.new.Goals as goal

pub returns-clause-holds : goal.returns-clause-holds
returns-clause-holds c = λ first m.
    c.new.ensures ∙ sym (subtrees_none (run_cv c.args.parameters.key c.args.parameters.flags first m) 54 0)
