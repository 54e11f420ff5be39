use Rattle.std.proofs.Common.{arith}
use Rattle.b3.proofs.Powers.{greatest_below}
use Rattle.b3.proofs.tree.greatest_power_below.Goals as goal

pub returns : goal.returns
returns c =
    let power = c.next_power_of_two.ensures in
    greatest_below c.next_power_of_two.result c.args.n power.power power.lower_bound power.upper_bound (omega arith)
