use Rattle.std.proofs.Common.{refl, arith, w64}
use Rattle.std.proofs.lemmas.Simd.{get_or_narrower, below_from_Fits}
use Rattle.words.proofs.lanes.long.bytes_of.Goals as goal

pub returns : goal.returns
returns c i j a b =
    get_or_narrower 18446744073709551616 8 256 32 c.args.x i j refl (below_from_Fits w64 c.args.x c.fits-x.1) b
    (omega arith)
