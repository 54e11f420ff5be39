use Rattle.std.proofs.Common.{[], ◌∙◌, ◌-◌, arith, ap, slice_index, slice_index_or, sym}
use Rattle.sha2.proofs.Schedule256.{slice_index-schedule_first}
use Rattle.sha2.specs.Sha256.{schedule}
use Rattle.sha_blocks.proofs.Rounds.{next_word_at}
use Rattle.sha_blocks.proofs.schedules.schedule_words.Goals as goal

pub returns-then-t-lt16 : goal.returns-then-t-lt16
returns-then-t-lt16 c i lt written =
    c.block_words.ensures i lt
    ∙ sym (slice_index-schedule_first (slice_index_or c.args.blocks.now i []) 48 c.args.t (omega arith))

pub returns : goal.returns
returns c i lt written =
    let b = slice_index_or c.args.blocks.now i [] in
    let t = c.args.t - 16 in
    next_word_at b t 0 (omega arith) _ _ _ _ _ (c.next_word.ensures i lt)
    (written (c.args.t - 2) (omega arith) ∙ ap (slice_index (schedule b 48)) (omega arith))
    (written (c.args.t - 7) (omega arith) ∙ ap (slice_index (schedule b 48)) (omega arith))
    (written (c.args.t - 15) (omega arith) ∙ ap (slice_index (schedule b 48)) (omega arith))
    (written t (omega arith) ∙ ap (slice_index (schedule b 48)) (omega arith))
    ∙ ap (slice_index (schedule b 48)) (omega arith)
