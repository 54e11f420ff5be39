use Rattle.std.proofs.Common.{◌+◌, ◌*◌, length}
use Rattle.b3.proofs.tree.+tree.Given as goal

abbrev pub decreases-tree_over : goal.decreases-tree_over
decreases-tree_over l = 2 * length l.bytes.now

-- it calls `tree_over` on the same bytes
abbrev pub decreases-value_over : goal.decreases-value_over
decreases-value_over l = 2 * length l.bytes.now + 1
