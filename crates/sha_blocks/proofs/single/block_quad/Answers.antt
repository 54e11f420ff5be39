use Rattle.std.proofs.Common.{ℕ, ◌<◌, ◌+◌, ◌*◌, ◌∙◌, ap, arith, sym}
use Rattle.sha2.specs.Sha256.{word_at}
use Rattle.sha2.proofs.Schedule256.{slice_index-schedule_first}
use Rattle.words.proofs.LaneLemmas.{below_four}
use Rattle.sha_blocks.proofs.single.block_quad.Goals as goal

pub returns : goal.returns
returns c =
    let b = c.args.block.now in
    let t = c.args.t in
    let first = λ (i : ℕ) (lt : i < 4). sym (slice_index-schedule_first b 48 (t + i) (omega arith)) in
    below_four _
    (c.word.ensures ∙ ap (λ (k : ℕ). word_at b (4 * k)) (omega arith) ∙ first 0 (omega arith))
    (c.word-2.ensures ∙ first 1 (omega arith))
    (c.word-3.ensures ∙ first 2 (omega arith))
    (c.word-4.ensures ∙ first 3 (omega arith))
