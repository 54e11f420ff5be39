use Rattle.words.specs.inside.Lanes.{lane}
use Rattle.words.proofs.LaneLemmas.{below_four}
use Rattle.pieces.proofs.LongWords.{block_read}
use Rattle.pieces.proofs.lanes2.words64.message_lanes.Goals as goal

pub returns : goal.returns
unfolding lane
returns c =
    rw (c.transpose.ensures, c.transpose-2.ensures, c.transpose-3.ensures, c.transpose-4.ensures)
    (below_four _
    (block_read _ _ _ _ _ _ c.row.ensures c.row-5.ensures c.row-9.ensures c.row-13.ensures c.block_at-b0.ensures.block)
    (block_read _ _ _ _ _ _ c.row-2.ensures c.row-6.ensures c.row-10.ensures c.row-14.ensures
    c.block_at-b1.ensures.block)
    (block_read _ _ _ _ _ _ c.row-3.ensures c.row-7.ensures c.row-11.ensures c.row-15.ensures
    c.block_at-b2.ensures.block)
    (block_read _ _ _ _ _ _ c.row-4.ensures c.row-8.ensures c.row-12.ensures c.row-16.ensures
    c.block_at-b3.ensures.block))
