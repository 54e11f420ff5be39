use Rattle.std.proofs.Common.{arith}
use Rattle.pieces.proofs.sha_lanes.words32.step_ahead.Goals as goal

pub returns-clause-rounds : goal.returns-clause-rounds
returns-clause-rounds c i lt h b before = (
  c.step-next.ensures i lt h b before.0 (before.1 c.args.t (omega arith)),
  λ k below. c.extend.ensures.written i lt b before.1 k (omega arith),
)
