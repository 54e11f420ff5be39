use Rattle.std.specs.Int.{w64}
use Rattle.sha_blocks.proofs.Lanes.{rotated_lane}
use Rattle.sha_blocks.proofs.sha512.schedules.rotated.Goals as goal

pub returns : goal.returns
returns c i h = rotated_lane w64 4 c.args.r i c.args.x c.fits-x.0 c.requires.low c.requires.high h
