use Rattle.std.proofs.Common.{◌≡◌, take, length}
use Rattle.mac.specs.Hmac.{xored}
use Rattle.mac.proofs.key.xor_each.Given as goal

abbrev pub invariant-loop-i : goal.invariant-loop-i
invariant-loop-i l = (length l.out ≡ 128) × (take l.i l.out ≡ xored l.pad (take l.i l.block))
