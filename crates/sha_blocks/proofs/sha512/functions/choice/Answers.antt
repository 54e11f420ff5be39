use Rattle.std.proofs.Common.{arith}
use Rattle.std.specs.Int.{w64}
use Rattle.sha_blocks.proofs.ChoiceMajority.{choice_short}
use Rattle.sha_blocks.proofs.sha512.functions.choice.Goals as goal

pub returns : goal.returns
returns c = choice_short w64 c.args.x c.args.y c.args.z (omega arith) (omega arith) (omega arith)
