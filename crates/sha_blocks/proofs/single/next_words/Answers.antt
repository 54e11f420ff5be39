use Rattle.std.proofs.Common.{◌^◌}
use Rattle.sha_blocks.proofs.Sums.{word_around}
use Rattle.sha_blocks.proofs.single.next_words.Goals as goal

pub returns : goal.returns
returns c i h =
    rw (
      c.add-2.ensures i h,
      c.add-known.ensures i h,
      c.add.ensures i h,
      c.small_sigma.ensures i h,
      c.small_sigma-2.ensures i h,
    )
    (word_around (2 ^ 32) _ _ _ _)
