use Rattle.std.proofs.Common.{Bor, codes, ◌∙◌}
use Rattle.std.specs.Str.{bytes_eq}
use Rattle.request.specs.CommandLine.{Text}
use Rattle.task.proofs.Lists.{list_any-map}
use Rattle.task.proofs.tasks.have_input.Goals as goal

pub returns : goal.returns
returns c = c.contains.ensures.value
    ∙ list_any-map (λ name. bytes_eq name (codes "-")) (λ (n : Bor Text). n.now) c.args.names.now
