use Rattle.sha_blocks.proofs.ChoiceMajority.{majority_short}
use Rattle.sha_blocks.proofs.sha512.functions.majority.Goals as goal

pub returns : goal.returns
returns c = majority_short c.args.x c.args.y c.args.z
