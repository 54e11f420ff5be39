use Rattle.std.proofs.Common.{◌≡◌, take}
use Rattle.std.specs.Simd.Lanes.{fold_l}
use Rattle.sha2.specs.Sha512.{compress}
use Rattle.sha_blocks.proofs.sha512.blocks.compress_each.Given as goal

abbrev pub invariant-blocks-2 : goal.invariant-blocks-2
invariant-blocks-2 l = l.h ≡ fold_l compress l.fn.h (take l.block-index l.blocks)
