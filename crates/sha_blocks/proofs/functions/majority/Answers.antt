use Rattle.sha_blocks.proofs.ChoiceMajority.{majority_short}
use Rattle.sha_blocks.proofs.functions.majority.Goals as goal

pub returns : goal.returns
returns c = majority_short c.args.x c.args.y c.args.z
