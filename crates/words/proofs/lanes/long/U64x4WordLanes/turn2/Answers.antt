use Rattle.std.proofs.Common.{arith, refl}
use Rattle.words.proofs.LongTurns.{turned_24, words_turned}
use Rattle.words.proofs.LaneLemmas.{below_four}
use Rattle.words.proofs.lanes.long.U64x4WordLanes.turn2.Goals as goal

pub returns : goal.returns
returns c =
    words_turned 4 3 4 5 6 7 0 1 2 24 _ _ _ _ _ _ turned_24
    (omega arith, omega arith, omega arith, omega arith, omega arith, omega arith, omega arith, omega arith)
    c.bytes_of.ensures c.xor.ensures.fit c.xor.ensures.lanes
    (rw c.move24.ensures (below_four _ refl refl refl refl))
    c.words_of.ensures
