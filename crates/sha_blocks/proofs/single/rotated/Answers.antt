use Rattle.std.specs.Int.{w32}
use Rattle.sha_blocks.proofs.Lanes.{rotated_lane}
use Rattle.sha_blocks.proofs.single.rotated.Goals as goal

pub returns : goal.returns
returns c i h = rotated_lane w32 4 c.args.r i c.args.x c.fits-x.0 c.requires.low c.requires.high h
