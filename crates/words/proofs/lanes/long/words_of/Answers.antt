use Rattle.std.proofs.Common.{refl, w8}
use Rattle.std.proofs.lemmas.Simd.{get_or_wider, below_from_Fits}
use Rattle.words.proofs.lanes.long.words_of.Goals as goal

pub returns : goal.returns
returns c i h = get_or_wider 256 8 18446744073709551616 4 c.args.x i refl (below_from_Fits w8 c.args.x c.fits-x.1) h
