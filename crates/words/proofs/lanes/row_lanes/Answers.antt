use Rattle.std.proofs.Common.{sym}
use Rattle.words.specs.inside.Lanes.{lane}
use Rattle.words.proofs.LaneLemmas.{below_eight, listed}
use Rattle.words.proofs.lanes.row_lanes.Goals as goal

pub returns : goal.returns
unfolding lane
returns c =
    rw (c.transpose-first.ensures, c.transpose-second.ensures) (below_eight _
    (rw (c.first_half.ensures.words, c.second_half.ensures) (sym (listed 16 _ c.first_half.ensures.whole)))
    (rw (c.first_half-2.ensures.words, c.second_half-2.ensures) (sym (listed 16 _ c.first_half-2.ensures.whole)))
    (rw (c.first_half-3.ensures.words, c.second_half-3.ensures) (sym (listed 16 _ c.first_half-3.ensures.whole)))
    (rw (c.first_half-4.ensures.words, c.second_half-4.ensures) (sym (listed 16 _ c.first_half-4.ensures.whole)))
    (rw (c.first_half-5.ensures.words, c.second_half-5.ensures) (sym (listed 16 _ c.first_half-5.ensures.whole)))
    (rw (c.first_half-6.ensures.words, c.second_half-6.ensures) (sym (listed 16 _ c.first_half-6.ensures.whole)))
    (rw (c.first_half-7.ensures.words, c.second_half-7.ensures) (sym (listed 16 _ c.first_half-7.ensures.whole)))
    (rw (c.first_half-8.ensures.words, c.second_half-8.ensures) (sym (listed 16 _ c.first_half-8.ensures.whole))))
