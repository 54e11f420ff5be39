use Rattle.std.proofs.Common.{arith}
use Rattle.words.proofs.LaneLemmas.{below_four}
use Rattle.words.proofs.lanes.quad.Goals as goal

pub returns-clause-low : goal.returns-clause-low
returns-clause-low c =
    rw c.joined.ensures (below_four _ (c.row.ensures 0 (omega arith)) (c.row.ensures 1 (omega arith))
    (c.row.ensures 2 (omega arith)) (c.row.ensures 3 (omega arith)))

pub returns-clause-high : goal.returns-clause-high
returns-clause-high c =
    rw c.joined.ensures (below_four _ (c.row-2.ensures 0 (omega arith)) (c.row-2.ensures 1 (omega arith))
    (c.row-2.ensures 2 (omega arith)) (c.row-2.ensures 3 (omega arith)))
