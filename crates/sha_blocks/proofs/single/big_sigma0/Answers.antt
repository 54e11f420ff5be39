use Rattle.std.proofs.Common.{arith}
use Rattle.sha_blocks.proofs.Rotations.{rotated_three}
use Rattle.sha_blocks.proofs.single.big_sigma0.Goals as goal

pub returns-then-level-lt3 : goal.returns-then-level-lt3
returns-then-level-lt3 c =
    rw (
      c.rotate_right-then-level-lt3-2.ensures,
      c.rotate_right-then-level-lt3.ensures,
      c.rotate_right.ensures,
    )
    (rotated_three 32 c.args.x 2 11 9 (omega arith) (omega arith))
