use Rattle.std.proofs.Common.{arith, refl}
use Rattle.words.proofs.ByteTurns.{turned_16, words_turned}
use Rattle.words.proofs.LaneLemmas.{below_four}
use Rattle.words.proofs.lanes.four.U32x4WordLanes.turn1.Goals as goal

pub returns : goal.returns
returns c =
    words_turned 4 2 3 0 1 16 _ _ _ _ _ _ turned_16 (omega arith, omega arith, omega arith, omega arith)
    c.bytes_of.ensures c.xor.ensures.fit c.xor.ensures.lanes
    (rw (c.half.ensures, c.args.turns.sixteen) (below_four _ refl refl refl refl)) c.words_of.ensures
