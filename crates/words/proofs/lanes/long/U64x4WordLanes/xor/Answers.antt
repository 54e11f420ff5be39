use Rattle.std.proofs.Common.{w64}
use Rattle.std.proofs.lemmas.Simd.{below_from_Fits}
use Rattle.words.proofs.LaneLemmas.{xors_fit}
use Rattle.words.proofs.lanes.long.U64x4WordLanes.xor.Goals as goal

pub returns-clause-fit : goal.returns-clause-fit
returns-clause-fit c =
    xors_fit 64 4 c.args.self c.fits-self.0 c.args.y c.fits-y.0 (below_from_Fits w64 c.args.self c.fits-self.1)
    (below_from_Fits w64 c.args.y c.fits-y.1)
