use Rattle.std.proofs.Common.{refl, w64}
use Rattle.words.proofs.LaneLemmas.{shifts_rotate}
use Rattle.words.proofs.lanes.long.U64x4WordLanes.turn4.Goals as goal

pub returns : goal.returns
returns c = shifts_rotate w64 64 63 4 (λ z. refl) c.args.self c.fits-self.0 c.args.y c.fits-y.0
