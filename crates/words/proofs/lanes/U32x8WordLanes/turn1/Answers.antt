use Rattle.std.proofs.Common.{arith, refl}
use Rattle.words.proofs.ByteTurns.{turned_16, words_turned}
use Rattle.words.proofs.LaneLemmas.{below_eight}
use Rattle.words.proofs.lanes.U32x8WordLanes.turn1.Goals as goal

pub returns : goal.returns
returns c =
    words_turned 8 2 3 0 1 16 _ _ _ _ _ _ turned_16 (omega arith, omega arith, omega arith, omega arith)
    c.bytes_of.ensures c.xor.ensures.fit c.xor.ensures.lanes
    (rw c.args.turns.sixteen (below_eight _ refl refl refl refl refl refl refl refl)) c.words_of.ensures
