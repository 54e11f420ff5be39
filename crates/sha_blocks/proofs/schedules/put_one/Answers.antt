use Rattle.std.proofs.Common.{◌+◌, arith}
use Rattle.sha_blocks.proofs.Rounds.{IsKeyedTo_at, IsKeyedTo_more}
use Rattle.sha_blocks.proofs.schedules.put_one.Goals as goal

pub returns-clause-keyed : goal.returns-clause-keyed
returns-clause-keyed c = λ i lt b window before.
    let n = c.args.t + c.args.k in
    IsKeyedTo_at b (n + 1) _ i _ (omega arith)
    (IsKeyedTo_more b n i _ _ _ (omega arith) before (window c.args.k (omega arith)) (c.keyed.ensures i lt))
