use Rattle.std.proofs.Common.{arith, map}
use Rattle.words.specs.inside.Lanes.{lane, lane8}
use Rattle.words.proofs.LaneRounds.{folded_in, xored_in}
use Rattle.words.proofs.lanes.mixing.folded.Goals as goal

pub returns : goal.returns
returns g c i h =
    let words = g.V.WordLanes.words in
    let xor = xored_in words c.args.h.now c.args.v.now c.told-h c.told-v i in
    folded_in (lane8 i (map words c.args.h.now)) (lane i (map words c.args.v.now))
    (xor 0 _ _ _ _ _ (omega arith) (c.xor.ensures.lanes i h) (c.xor-2.ensures.lanes i h))
    (xor 1 _ _ _ _ _ (omega arith) (c.xor-3.ensures.lanes i h) (c.xor-4.ensures.lanes i h))
    (xor 2 _ _ _ _ _ (omega arith) (c.xor-5.ensures.lanes i h) (c.xor-6.ensures.lanes i h))
    (xor 3 _ _ _ _ _ (omega arith) (c.xor-7.ensures.lanes i h) (c.xor-8.ensures.lanes i h))
    (xor 4 _ _ _ _ _ (omega arith) (c.xor-9.ensures.lanes i h) (c.xor-10.ensures.lanes i h))
    (xor 5 _ _ _ _ _ (omega arith) (c.xor-11.ensures.lanes i h) (c.xor-12.ensures.lanes i h))
    (xor 6 _ _ _ _ _ (omega arith) (c.xor-13.ensures.lanes i h) (c.xor-14.ensures.lanes i h))
    (xor 7 _ _ _ _ _ (omega arith) (c.xor-15.ensures.lanes i h) (c.xor-16.ensures.lanes i h))
