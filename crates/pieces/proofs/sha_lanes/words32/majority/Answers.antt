use Rattle.pieces.proofs.Lanes.{majority_lane}
use Rattle.pieces.proofs.sha_lanes.words32.majority.Goals as goal

pub returns : goal.returns
returns c = majority_lane 8 c.args.x c.args.y c.args.z c.fits-x.0 c.fits-y.0 c.fits-z.0
