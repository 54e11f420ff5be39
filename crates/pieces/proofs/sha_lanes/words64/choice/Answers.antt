use Rattle.std.specs.Int.{w64}
use Rattle.pieces.proofs.Lanes.{choice_lane}
use Rattle.pieces.proofs.sha_lanes.words64.choice.Goals as goal

pub returns : goal.returns
returns c =
    choice_lane w64 4 c.args.x c.args.y c.args.z c.fits-x.0 c.fits-x.1 c.fits-y.0 c.fits-y.1 c.fits-z.0 c.fits-z.1
