use Rattle.std.proofs.Common.{ℕ, ◌+◌, ◌*◌, arith, ap}
use Rattle.b3.proofs.Lanes8.{blocks_begun, blocks_more}
use Rattle.b3.proofs.lanes.few_chunk_lanes.Goals as goal

pub each_block-init : goal.each_block-init
each_block-init c = blocks_begun _ _ _ _ 4 _ _ c.same_lanes-values.ensures

pub each_block-preserved : goal.each_block-preserved
each_block-preserved c =
    blocks_more _ _ _ _ _ 4 c.each_block.j _ _ _ _ _ _ c.each_block.invariant (omega arith)
    c.message_lanes-message.ensures
    (λ k h w. ap (λ (a : ℕ). a + 64 * c.each_block.j) (c.lane_starts-starts.ensures.own k h (omega arith)))
    c.numbers-counters.ensures c.next_lanes-next.ensures c.block_flags-d.ensures.first c.block_flags-d.ensures.later
    c.block_flags-d.ensures.last

pub returns-clause-values : goal.returns-clause-values
returns-clause-values c = λ k h w. (c.each_block.invariant k h w).2 (omega arith)

pub returns-clause-before : goal.returns-clause-before
returns-clause-before c = λ k h w. (c.each_block.invariant k h w).1 (omega arith)
