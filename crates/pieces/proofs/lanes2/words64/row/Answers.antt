use Rattle.std.proofs.Common.{arith}
use Rattle.words.proofs.LaneLemmas.{below_four, listed}
use Rattle.pieces.proofs.LongWords.{words_loaded}
use Rattle.pieces.proofs.lanes2.words64.row.Goals as goal

pub returns : goal.returns
returns c =
    let whole = listed 32 c.load.result c.load.ensures.whole in
    let word = words_loaded c.args.block.now c.load.result c.args.at c.load.ensures.bytes in
    below_four _
    (rw (c.words_of.ensures 0 (omega arith), whole) (word 0 (omega arith)))
    (rw (c.words_of.ensures 1 (omega arith), whole) (word 1 (omega arith)))
    (rw (c.words_of.ensures 2 (omega arith), whole) (word 2 (omega arith)))
    (rw (c.words_of.ensures 3 (omega arith), whole) (word 3 (omega arith)))
