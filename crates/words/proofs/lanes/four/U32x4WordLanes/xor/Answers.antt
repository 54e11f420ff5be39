use Rattle.std.proofs.Common.{w32}
use Rattle.std.proofs.lemmas.Simd.{below_from_Fits}
use Rattle.words.proofs.LaneLemmas.{xors_fit}
use Rattle.words.proofs.lanes.four.U32x4WordLanes.xor.Goals as goal

pub returns-clause-fit : goal.returns-clause-fit
returns-clause-fit c =
    xors_fit 32 4 c.args.self c.fits-self.0 c.args.y c.fits-y.0 (below_from_Fits w32 c.args.self c.fits-self.1)
    (below_from_Fits w32 c.args.y c.fits-y.1)
