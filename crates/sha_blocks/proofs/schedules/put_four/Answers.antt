use Rattle.std.proofs.Common.{arith}
use Rattle.sha_blocks.proofs.Rounds.{IsKeyedTo_at}
use Rattle.sha_blocks.proofs.schedules.put_four.Goals as goal

pub returns-clause-keyed : goal.returns-clause-keyed
returns-clause-keyed c = λ i lt b window before.
    let at = IsKeyedTo_at b in
    let k1 = c.put_one.ensures.keyed i lt b window before in
    let k2 = c.put_one-2.ensures.keyed i lt b window k1 in
    let k3 = c.put_one-3.ensures.keyed i lt b window (at _ _ i _ (omega arith) k2) in
    at _ _ i _ (omega arith) (c.put_one-4.ensures.keyed i lt b window (at _ _ i _ (omega arith) k3))
