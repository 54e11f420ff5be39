use Rattle.std.proofs.Common.{◌∙◌, arith}
use Rattle.b3.proofs.Runs.{joined_halves}
use Rattle.b3.proofs.lanes.subtree_halves.Goals as goal

pub returns : goal.returns
returns c =
    let over = c.parents.ensures in
    let both = joined_halves c.args.parameters.now.key c.args.parameters.now.flags c.args.first c.args.bytes.now
    c.args.level _ c.requires.length (λ i h. c.lane_rows-values.ensures i h ∙ c.subtree_lanes.ensures i h) in
    record {
      left = c.two_parents.ensures 0 (omega arith)
          ∙ rw (over 0 (omega arith), over 1 (omega arith)) both.0;
      right = c.two_parents.ensures 1 (omega arith)
          ∙ rw (over 2 (omega arith), over 3 (omega arith)) both.1;
    }
