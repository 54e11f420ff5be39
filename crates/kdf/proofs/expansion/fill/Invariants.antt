use Rattle.std.proofs.Common.{◌-◌, length}
use Rattle.mac.specs.Hmac.{hmac}
use Rattle.kdf.proofs.Blocks.{Written}
use Rattle.kdf.proofs.expansion.fill.Given as goal

abbrev pub invariant-loop-filled : goal.invariant-loop-filled
invariant-loop-filled g l =
    Written (hmac g.H.BlockHash.hash_of g.H.BlockHash.BLOCK l.prk) l.info g.H.BlockHash.OUT l.out l.filled l.counter
    l.block

abbrev pub decreases-loop-filled : goal.decreases-loop-filled
decreases-loop-filled g l = length l.initial.out - l.filled
