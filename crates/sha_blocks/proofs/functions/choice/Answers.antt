use Rattle.std.proofs.Common.{arith}
use Rattle.std.specs.Int.{w32}
use Rattle.sha_blocks.proofs.ChoiceMajority.{choice_short}
use Rattle.sha_blocks.proofs.functions.choice.Goals as goal

pub returns : goal.returns
returns c = choice_short w32 c.args.x c.args.y c.args.z (omega arith) (omega arith) (omega arith)
