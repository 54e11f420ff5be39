use Rattle.std.proofs.Common.{[], arith, slice_index_or}
use Rattle.sha_blocks.proofs.Rounds.{IsAhead_more}
use Rattle.sha_blocks.proofs.schedules.put_words.Goals as goal

pub returns-clause-ahead : goal.returns-clause-ahead
returns-clause-ahead c = λ i lt before.
    IsAhead_more (slice_index_or c.args.blocks.now i []) c.args.t i _ _ _ _ (omega arith) (omega arith) before
    (c.schedule_words-word.ensures i lt before.0) (c.keyed.ensures i lt)
