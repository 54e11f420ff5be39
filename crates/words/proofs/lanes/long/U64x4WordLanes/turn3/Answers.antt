use Rattle.std.proofs.Common.{arith, refl}
use Rattle.words.proofs.LongTurns.{turned_16, words_turned}
use Rattle.words.proofs.LaneLemmas.{below_four}
use Rattle.words.proofs.lanes.long.U64x4WordLanes.turn3.Goals as goal

pub returns : goal.returns
returns c =
    words_turned 4 2 3 4 5 6 7 0 1 16 _ _ _ _ _ _ turned_16
    (omega arith, omega arith, omega arith, omega arith, omega arith, omega arith, omega arith, omega arith)
    c.bytes_of.ensures c.xor.ensures.fit c.xor.ensures.lanes
    (rw c.move16.ensures (below_four _ refl refl refl refl))
    c.words_of.ensures
