use Rattle.std.proofs.Common.{◌≡◌, [], sym, ◌∙◌, arith}
use Rattle.b3.specs.Tree.{chunk_count}
use Rattle.b3.proofs.Folding.{tree_one}
use Rattle.b3.proofs.tree.chunk_over.Goals as goal

pub returns : goal.returns
returns c =
    let one : chunk_count c.args.bytes.now ≡ 1 = omega arith in
    c.node.ensures c.args.parameters.now.key c.args.bytes.now
    (c.update.ensures.holds c.args.parameters.now.key []
    (c.new-chunk.ensures.holds c.args.parameters.now.flags c.args.number))
    ∙ sym (tree_one c.args.parameters.now.key c.args.parameters.now.flags c.args.number c.args.bytes.now one)
