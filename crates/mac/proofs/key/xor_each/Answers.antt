use Rattle.std.proofs.Common.{arith}
use Rattle.std.proofs.lemmas.Grind.{common_steps}
use Rattle.std.proofs.lemmas.List.{map_more, take_more_set}
use Rattle.mac.proofs.key.xor_each.Goals as goal

pub loop-i-preserved : goal.loop-i-preserved
loop-i-preserved c = grind (arith, common_steps, map_more, take_more_set)

pub returns : goal.returns
returns c = grind (arith, common_steps)
