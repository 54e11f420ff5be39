use Rattle.std.proofs.Common.{ℕ, ◌/◌, ◌^◌, bit_xor, ap, arith}
use Rattle.sha_blocks.proofs.Rotations.{rotated_two}
use Rattle.sha_blocks.proofs.sha512.ring.small_sigma1.Goals as goal

pub returns : goal.returns
returns c = rw (c.rotate_right-2.ensures, c.rotate_right.ensures)
    (ap (λ (y : ℕ). bit_xor y (c.args.x / 2 ^ 6)) (rotated_two 64 c.args.x 19 42 (omega arith) (omega arith)))
