use Rattle.std.proofs.lemmas.Grind.{common_steps}
use Rattle.std.proofs.Common.{arith, take-append-drop}
use Rattle.command.proofs.Comparing.{none_left, other_front, same_behind}
use Rattle.command.proofs.making.is_output.Goals as goal

pub returns-then-not-is_next : goal.returns-then-not-is_next
returns-then-not-is_next c = grind (arith, common_steps, take-append-drop, other_front)

pub loop-rest-preserved : goal.loop-rest-preserved
loop-rest-preserved c = grind (arith, common_steps, take-append-drop, same_behind)

pub returns : goal.returns
returns c = grind (arith, common_steps, none_left)
