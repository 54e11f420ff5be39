use Rattle.std.proofs.Common.{ℕ, ◌+◌, ◌*◌, arith, ap, ◌∙◌}
use Rattle.words.proofs.LaneLemmas.{below_two}
use Rattle.b3.proofs.Lanes8.{blocks_begun, blocks_more}
use Rattle.b3.proofs.lanes.two_chunk_values.Goals as goal

pub each_block-init : goal.each_block-init
each_block-init c = blocks_begun _ _ _ _ 2 _ _ c.same_halves-next.ensures

pub each_block-preserved : goal.each_block-preserved
each_block-preserved c =
    blocks_more _ _ _ _ _ 2 c.each_block.j _ _ _ _ _ _ c.each_block.invariant (omega arith)
    c.message_halves-message.ensures
    (λ k h w. ap (λ (a : ℕ). a + 64 * c.each_block.j) (c.lane_starts-starts.ensures.own k h (omega arith)))
    c.numbers-counters.ensures c.next_halves-next.ensures c.block_flags-d.ensures.first c.block_flags-d.ensures.later
    c.block_flags-d.ensures.last

pub returns-clause-values : goal.returns-clause-values
returns-clause-values c =
    let row = c.half_rows.ensures.written in
    let at = c.each_block.invariant in
    below_two _ (row 0 (omega arith) ∙ (at 0 (omega arith) (omega arith)).2 (omega arith))
    (row 1 (omega arith) ∙ (at 1 (omega arith) (omega arith)).2 (omega arith))

pub returns-clause-before : goal.returns-clause-before
returns-clause-before c =
    let row = c.half_rows-2.ensures.written in
    let at = c.each_block.invariant in
    below_two _ (row 0 (omega arith) ∙ (at 0 (omega arith) (omega arith)).1 (omega arith))
    (row 1 (omega arith) ∙ (at 1 (omega arith) (omega arith)).1 (omega arith))
