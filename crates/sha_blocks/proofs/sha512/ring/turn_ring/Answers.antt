use Rattle.std.proofs.Common.{arith}
use Rattle.sha2.proofs.Schedule512.{IsRoundsAt_at}
use Rattle.sha_blocks.proofs.sha512.ring.turn_ring.Goals as goal

pub returns : goal.returns
returns c = λ b h held.
    let s1 = c.four_steps-after.ensures b h (IsRoundsAt_at b h _ _ _ _ (omega arith) held) in
    let s2 = c.four_steps-after-2.ensures b h s1 in
    let s3 = c.four_steps-after-3.ensures b h s2 in
    IsRoundsAt_at b h _ _ _ _ (omega arith) (c.four_steps.ensures b h s3)
