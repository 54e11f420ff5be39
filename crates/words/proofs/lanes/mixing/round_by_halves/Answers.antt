use Rattle.std.proofs.Common.{refl, arith, map, slice_index}
use Rattle.words.specs.inside.Lanes.{lane}
use Rattle.words.proofs.LaneRounds.{column_words, mixed_words, round_by_columns}
use Rattle.words.proofs.lanes.mixing.round_by_halves.Goals as goal

pub returns : goal.returns
unfolding lane
returns g c i h =
    let words = g.V.WordLanes.words in
    let v = column_words words c.args.v.now c.told-v i in
    let m = mixed_words words c.args.m.now c.told-m i in
    let s = slice_index c.args.s.now in
    round_by_columns g.V.WordLanes.variant (lane i (map words c.args.v.now)) (lane i (map words c.args.m.now))
    c.args.s.now refl
    (v 0 _ _ _ _ (omega arith) _ _ _ _ (m (s 0) (s 1) _ _ (c.requires 0 (omega arith)) (c.requires 1 (omega arith)) _
    _ _ (c.end_mix-a0.ensures i h _ _ (c.begin_mix-p0.ensures i h))))
    (v 1 _ _ _ _ (omega arith) _ _ _ _ (m (s 2) (s 3) _ _ (c.requires 2 (omega arith)) (c.requires 3 (omega arith)) _
    _ _ (c.end_mix-a1.ensures i h _ _ (c.begin_mix-p1.ensures i h))))
    (v 2 _ _ _ _ (omega arith) _ _ _ _ (m (s 4) (s 5) _ _ (c.requires 4 (omega arith)) (c.requires 5 (omega arith)) _
    _ _ (c.end_mix-a2.ensures i h _ _ (c.begin_mix-p2.ensures i h))))
    (v 3 _ _ _ _ (omega arith) _ _ _ _ (m (s 6) (s 7) _ _ (c.requires 6 (omega arith)) (c.requires 7 (omega arith)) _
    _ _ (c.end_mix-a3.ensures i h _ _ (c.begin_mix-p3.ensures i h))))
    (m (s 8) (s 9) _ _ (c.requires 8 (omega arith)) (c.requires 9 (omega arith)) _
    _ _ (c.end_mix-a0-2.ensures i h _ _ (c.begin_mix-q0.ensures i h)))
    (m (s 10) (s 11) _ _ (c.requires 10 (omega arith)) (c.requires 11 (omega arith)) _
    _ _ (c.end_mix-a1-2.ensures i h _ _ (c.begin_mix-q1.ensures i h)))
    (m (s 12) (s 13) _ _ (c.requires 12 (omega arith)) (c.requires 13 (omega arith)) _
    _ _ (c.end_mix-a2-2.ensures i h _ _ (c.begin_mix-q2.ensures i h)))
    (m (s 14) (s 15) _ _ (c.requires 14 (omega arith)) (c.requires 15 (omega arith)) _
    _ _ (c.end_mix-a3-2.ensures i h _ _ (c.begin_mix-q3.ensures i h)))
