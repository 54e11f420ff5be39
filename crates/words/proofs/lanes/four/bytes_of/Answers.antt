use Rattle.std.proofs.Common.{refl, arith, w32}
use Rattle.std.proofs.lemmas.Simd.{get_or_narrower, below_from_Fits}
use Rattle.words.proofs.lanes.four.bytes_of.Goals as goal

pub returns : goal.returns
returns c i j a b = get_or_narrower 4294967296 4 256 16 c.args.x i j refl (below_from_Fits w32 c.args.x c.fits-x.1) b
    (omega arith)
