use Rattle.std.proofs.Common.{◌+◌, ◌∙◌, add-zero, ap, arith, slice_index, sym}
use Rattle.sha2.specs.Sha256.{schedule}
use Rattle.sha_blocks.proofs.Rounds.{next_word_at}
use Rattle.pieces.proofs.Lanes.{HasWords_more}
use Rattle.pieces.proofs.sha_lanes.words32.extend.Goals as goal

pub returns-clause-written : goal.returns-clause-written
returns-clause-written c = λ i lt b w.
    let t = c.args.t in
    let word = next_word_at b t 0 (omega arith) _ _ _ _ _ (c.next_word.ensures i lt) (w (t + 14) (omega arith))
    (w (t + 9) (omega arith)) (w (t + 1) (omega arith))
    (w t (omega arith) ∙ ap (slice_index (schedule b 48)) (sym (add-zero t))) in
    λ k below. HasWords_more (schedule b 48) (t + 16) i _ _ (omega arith) w word k (omega arith)
