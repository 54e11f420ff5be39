use Rattle.std.proofs.Common.{[], slice_index_or}
use Rattle.sha_blocks.proofs.Lanes.{below_sixteen}
use Rattle.sha_blocks.proofs.Rounds.{scheduled}
use Rattle.sha_blocks.proofs.schedules.first_sixteen.Goals as goal

pub returns : goal.returns
returns c i lt =
    scheduled (slice_index_or c.args.blocks.now i []) _ (below_sixteen _
    (c.block_words.ensures i lt)
    (c.block_words-2.ensures i lt)
    (c.block_words-3.ensures i lt)
    (c.block_words-4.ensures i lt)
    (c.block_words-5.ensures i lt)
    (c.block_words-6.ensures i lt)
    (c.block_words-7.ensures i lt)
    (c.block_words-8.ensures i lt)
    (c.block_words-9.ensures i lt)
    (c.block_words-10.ensures i lt)
    (c.block_words-11.ensures i lt)
    (c.block_words-12.ensures i lt)
    (c.block_words-13.ensures i lt)
    (c.block_words-14.ensures i lt)
    (c.block_words-15.ensures i lt)
    (c.block_words-16.ensures i lt))
