use Rattle.std.proofs.Common.{arith}
use Rattle.sha_blocks.proofs.Rounds512.{IsAhead_at}
use Rattle.sha_blocks.proofs.sha512.schedules.four_steps.Goals as goal

pub returns-clause-ahead : goal.returns-clause-ahead
returns-clause-ahead c = λ i lt b before.
    let s1 = c.step.ensures.ahead i lt b before in
    let s2 = c.step-2.ensures.ahead i lt b (IsAhead_at b _ _ i _ _ (omega arith) s1) in
    let s3 = c.step-3.ensures.ahead i lt b (IsAhead_at b _ _ i _ _ (omega arith) s2) in
    let s4 = c.step-4.ensures.ahead i lt b (IsAhead_at b _ _ i _ _ (omega arith) s3) in
    IsAhead_at b _ _ i _ _ (omega arith) s4
