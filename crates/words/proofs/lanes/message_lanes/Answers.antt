use Rattle.words.specs.inside.Lanes.{lane}
use Rattle.words.proofs.LaneLemmas.{below_eight, block_read}
use Rattle.words.proofs.lanes.message_lanes.Goals as goal

pub returns : goal.returns
unfolding lane
returns c =
    rw (c.quads.ensures, c.quads-2.ensures, c.quads-3.ensures, c.quads-4.ensures)
    (below_eight _
    (block_read _ _ _ _ _ _ c.quad.ensures.low c.quad-5.ensures.low c.quad-9.ensures.low c.quad-13.ensures.low
    c.block_at-b0.ensures.block)
    (block_read _ _ _ _ _ _ c.quad-2.ensures.low c.quad-6.ensures.low c.quad-10.ensures.low c.quad-14.ensures.low
    c.block_at-b1.ensures.block)
    (block_read _ _ _ _ _ _ c.quad-3.ensures.low c.quad-7.ensures.low c.quad-11.ensures.low c.quad-15.ensures.low
    c.block_at-b2.ensures.block)
    (block_read _ _ _ _ _ _ c.quad-4.ensures.low c.quad-8.ensures.low c.quad-12.ensures.low c.quad-16.ensures.low
    c.block_at-b3.ensures.block)
    (block_read _ _ _ _ _ _ c.quad.ensures.high c.quad-5.ensures.high c.quad-9.ensures.high c.quad-13.ensures.high
    c.block_at-b4.ensures.block)
    (block_read _ _ _ _ _ _ c.quad-2.ensures.high c.quad-6.ensures.high c.quad-10.ensures.high c.quad-14.ensures.high
    c.block_at-b5.ensures.block)
    (block_read _ _ _ _ _ _ c.quad-3.ensures.high c.quad-7.ensures.high c.quad-11.ensures.high c.quad-15.ensures.high
    c.block_at-b6.ensures.block)
    (block_read _ _ _ _ _ _ c.quad-4.ensures.high c.quad-8.ensures.high c.quad-12.ensures.high c.quad-16.ensures.high
    c.block_at-b7.ensures.block))
