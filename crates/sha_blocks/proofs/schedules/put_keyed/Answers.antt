use Rattle.std.proofs.Common.{arith}
use Rattle.sha_blocks.proofs.Rounds.{IsKeyedTo_at}
use Rattle.sha_blocks.proofs.schedules.put_keyed.Goals as goal

pub returns-clause-keyed : goal.returns-clause-keyed
returns-clause-keyed c = λ i lt b window before.
    let k1 = c.put_four.ensures.keyed i lt b window (IsKeyedTo_at b _ _ i _ (omega arith) before) in
    let k2 = c.put_four-2.ensures.keyed i lt b window k1 in
    let k3 = c.put_four-3.ensures.keyed i lt b window k2 in
    c.put_four-4.ensures.keyed i lt b window k3
