use Rattle.sha_blocks.proofs.Lanes.{xor_lane}
use Rattle.sha_blocks.proofs.single.xor.Goals as goal

pub returns : goal.returns
returns c = xor_lane 4 c.args.x c.args.y c.args.z c.fits-x.0 c.fits-y.0 c.fits-z.0
