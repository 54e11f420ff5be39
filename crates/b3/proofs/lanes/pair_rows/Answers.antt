use Rattle.std.proofs.Common.{◌∙◌, arith}
use Rattle.words.proofs.LaneLemmas.{below_four}
use Rattle.b3.proofs.lanes.pair_rows.Goals as goal

pub returns : goal.returns
returns c =
    let left = c.half_rows.ensures.written in
    let right = c.half_rows-2.ensures in
    below_four _ (right.kept 0 (omega arith) ∙ left 0 (omega arith)) (right.kept 1 (omega arith) ∙ left 1 (omega arith))
    (right.written 0 (omega arith)) (right.written 1 (omega arith))
