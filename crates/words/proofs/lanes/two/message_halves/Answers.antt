use Rattle.words.specs.inside.Halves.{half_message}
use Rattle.words.proofs.LaneLemmas.{below_two, block_read, listed}
use Rattle.words.proofs.lanes.two.message_halves.Goals as goal

pub returns : goal.returns
unfolding half_message
returns c =
    rw (
      listed 8 _ c.quad-x.ensures.whole,
      listed 8 _ c.quad-y.ensures.whole,
      listed 8 _ c.quad-z.ensures.whole,
      listed 8 _ c.quad-w.ensures.whole,
    )
    (below_two _
    (block_read _ _ _ _ _ _ c.quad-x.ensures.low c.quad-y.ensures.low c.quad-z.ensures.low c.quad-w.ensures.low
    c.block_at-b0.ensures.block)
    (block_read _ _ _ _ _ _ c.quad-x.ensures.high c.quad-y.ensures.high c.quad-z.ensures.high c.quad-w.ensures.high
    c.block_at-b1.ensures.block))
