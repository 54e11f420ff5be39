use Rattle.std.proofs.Common.{◌≡◌, ◌∙◌, ap, arith, slice_index}
use Rattle.words.specs.Words.{words}
use Rattle.pieces.proofs.blake2s_lanes.last_words.Goals as goal

pub returns-then-least_of-len : goal.returns-then-least_of-len
returns-then-least_of-len c = λ i lt.
    let same : slice_index c.args.lens.now i ≡ c.most_of-len.result =
    omega (arith, c.least_of.ensures i lt, c.most_of-len.ensures.bound i lt) in
    let first : slice_index c.args.lens.now 0 ≡ c.most_of-len.result =
    omega (arith, c.least_of.ensures 0 (omega arith), c.most_of-len.ensures.bound 0 (omega arith)) in
    let count : slice_index c.args.counts.now i ≡ slice_index c.args.counts.now 0 =
    omega (arith, c.requires.before i lt, c.requires.before 0 (omega arith)) in
    rw (same, count) (c.last_lanes.ensures i lt)

pub returns : goal.returns
returns c = λ i lt. c.block_words.ensures i lt ∙ ap (words 4 16) (c.last_blocks.ensures.value i lt)
