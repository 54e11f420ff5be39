use Rattle.std.proofs.Common.{◌∙◌}
use Rattle.b3.proofs.Runs.{joined_whole}
use Rattle.b3.proofs.lanes.subtree_of.Goals as goal

pub returns : goal.returns
returns c =
    c.join.ensures
    ∙ joined_whole c.args.parameters.now.key c.args.parameters.now.flags c.args.first c.args.bytes.now c.args.level _ _
    c.requires.length c.subtree_halves.ensures.left c.subtree_halves.ensures.right
