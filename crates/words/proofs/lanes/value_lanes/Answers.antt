use Rattle.std.proofs.Common.{◌≡◌, slice_index_or, [], sym}
use Rattle.words.specs.inside.Lanes.{lane8}
use Rattle.words.proofs.LaneLemmas.{below_eight, listed}
use Rattle.words.proofs.lanes.value_lanes.Goals as goal

pub returns : goal.returns
returns c =
    below_eight (λ i. lane8 i c.transpose.result ≡ slice_index_or c.args.h.now i [])
    (rw (c.transpose.ensures, c.row.ensures.words) (sym (listed 8 _ c.row.ensures.whole)))
    (rw (c.transpose.ensures, c.row-2.ensures.words) (sym (listed 8 _ c.row-2.ensures.whole)))
    (rw (c.transpose.ensures, c.row-3.ensures.words) (sym (listed 8 _ c.row-3.ensures.whole)))
    (rw (c.transpose.ensures, c.row-4.ensures.words) (sym (listed 8 _ c.row-4.ensures.whole)))
    (rw (c.transpose.ensures, c.row-5.ensures.words) (sym (listed 8 _ c.row-5.ensures.whole)))
    (rw (c.transpose.ensures, c.row-6.ensures.words) (sym (listed 8 _ c.row-6.ensures.whole)))
    (rw (c.transpose.ensures, c.row-7.ensures.words) (sym (listed 8 _ c.row-7.ensures.whole)))
    (rw (c.transpose.ensures, c.row-8.ensures.words) (sym (listed 8 _ c.row-8.ensures.whole)))
