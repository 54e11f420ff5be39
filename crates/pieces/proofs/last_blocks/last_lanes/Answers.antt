use Rattle.std.proofs.Common.{ap, ◌∙◌}
use Rattle.words.specs.Words.{words}
use Rattle.pieces.proofs.last_blocks.last_lanes.Goals as goal

pub returns : goal.returns
returns c i h = c.block_words.ensures i h ∙ ap (words 4 16) (c.padded_tails.ensures.value i h)
