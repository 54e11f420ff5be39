use Rattle.std.proofs.Common.{arith, refl}
use Rattle.words.proofs.ByteTurns.{turned_8, words_turned}
use Rattle.words.proofs.LaneLemmas.{below_eight}
use Rattle.words.proofs.lanes.U32x8WordLanes.turn3.Goals as goal

pub returns : goal.returns
returns c =
    words_turned 8 1 2 3 0 8 _ _ _ _ _ _ turned_8 (omega arith, omega arith, omega arith, omega arith)
    c.bytes_of.ensures c.xor.ensures.fit c.xor.ensures.lanes
    (rw c.args.turns.eight (below_eight _ refl refl refl refl refl refl refl refl)) c.words_of.ensures
