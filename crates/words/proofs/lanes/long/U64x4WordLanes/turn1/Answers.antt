use Rattle.std.proofs.Common.{arith, refl}
use Rattle.words.proofs.LongTurns.{turned_32, words_turned}
use Rattle.words.proofs.LaneLemmas.{below_four}
use Rattle.words.proofs.lanes.long.U64x4WordLanes.turn1.Goals as goal

pub returns : goal.returns
returns c =
    words_turned 4 4 5 6 7 0 1 2 3 32 _ _ _ _ _ _ turned_32
    (omega arith, omega arith, omega arith, omega arith, omega arith, omega arith, omega arith, omega arith)
    c.bytes_of.ensures c.xor.ensures.fit c.xor.ensures.lanes
    (rw c.move32.ensures (below_four _ refl refl refl refl))
    c.words_of.ensures
