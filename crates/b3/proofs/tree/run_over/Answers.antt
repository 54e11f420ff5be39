use Rattle.std.proofs.Common.{◌∙◌}
use Rattle.b3.proofs.Values.{halves_node}
use Rattle.b3.proofs.tree.run_over.Goals as goal

pub returns : goal.returns
returns c =
    c.parent.ensures
    ∙ halves_node c.args.parameters.now.key c.args.parameters.now.flags c.args.first c.args.bytes.now c.args.level _ _
    c.requires.length c.subtree_halves.ensures.left c.subtree_halves.ensures.right
