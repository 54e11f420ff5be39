use Rattle.std.proofs.Common.{◌+◌, arith}
use Rattle.sha_blocks.proofs.Rounds512.{IsWrittenTo_more, next_word_at}
use Rattle.sha_blocks.proofs.sha512.schedules.extend.Goals as goal

pub returns-clause-written : goal.returns-clause-written
returns-clause-written c = λ i lt b w.
    let t = c.args.t in
    let word = next_word_at b t c.requires _ _ _ _ _ (c.next_word.ensures i lt) (w (t + 14) (omega arith))
    (w (t + 9) (omega arith)) (w (t + 1) (omega arith)) (w t (omega arith)) in
    λ k below. IsWrittenTo_more b (t + 16) i _ _ (omega arith) w word k (omega arith)
