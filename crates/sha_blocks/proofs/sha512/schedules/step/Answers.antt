use Rattle.std.proofs.Common.{◌+◌, arith}
use Rattle.sha_blocks.proofs.Rounds512.{IsKeyedTo_more}
use Rattle.sha_blocks.proofs.sha512.schedules.step.Goals as goal

pub returns-clause-ahead : goal.returns-clause-ahead
returns-clause-ahead c = λ i lt b before.
    let t = c.args.t in
    let written = c.extend.ensures.written i lt b before.0 in (
      written,
      λ k below. IsKeyedTo_more b (t + 16) i _ _ _ (omega arith) before.1 (written (t + 16) (omega arith))
          (c.keyed.ensures i lt) k (omega arith),
    )
