use Rattle.std.proofs.Common.{length}
use Rattle.b3.proofs.tree.+joined_value.Given as goal

abbrev pub decreases-joined_value : goal.decreases-joined_value
decreases-joined_value l = length l.values.now
