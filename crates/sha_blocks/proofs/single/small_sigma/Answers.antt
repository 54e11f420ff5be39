use Rattle.std.proofs.Common.{refl}
use Rattle.sha_blocks.proofs.Lanes.{shifted_lane}
use Rattle.sha_blocks.proofs.single.small_sigma.Goals as goal

pub returns : goal.returns
returns c i h =
    rw (
      c.xor.ensures i h,
      c.rotated.ensures i h,
      c.rotated-2.ensures i h,
      shifted_lane 4 c.args.n i c.args.x c.fits-x.0 h,
    ) refl
