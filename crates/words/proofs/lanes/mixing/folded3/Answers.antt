use Rattle.std.proofs.Common.{arith, map}
use Rattle.words.specs.inside.Lanes.{lane}
use Rattle.words.proofs.SevenRounds.{folded}
use Rattle.words.proofs.LaneRounds.{xored}
use Rattle.words.proofs.lanes.mixing.folded3.Goals as goal

pub returns : goal.returns
returns g c i h =
    let xor = xored g.V.WordLanes.words c.args.v.now c.told-v i in
    folded (lane i (map g.V.WordLanes.words c.args.v.now))
    (xor 0 8 _ _ _ (omega arith) (omega arith) (c.xor.ensures.lanes i h))
    (xor 1 9 _ _ _ (omega arith) (omega arith) (c.xor-2.ensures.lanes i h))
    (xor 2 10 _ _ _ (omega arith) (omega arith) (c.xor-3.ensures.lanes i h))
    (xor 3 11 _ _ _ (omega arith) (omega arith) (c.xor-4.ensures.lanes i h))
    (xor 4 12 _ _ _ (omega arith) (omega arith) (c.xor-5.ensures.lanes i h))
    (xor 5 13 _ _ _ (omega arith) (omega arith) (c.xor-6.ensures.lanes i h))
    (xor 6 14 _ _ _ (omega arith) (omega arith) (c.xor-7.ensures.lanes i h))
    (xor 7 15 _ _ _ (omega arith) (omega arith) (c.xor-8.ensures.lanes i h))
