use Rattle.std.proofs.Common.{refl}
use Rattle.words.specs.inside.Lanes.{lane}
use Rattle.words.proofs.LaneLemmas.{below_four}
use Rattle.words.proofs.lanes.pair_lanes.Goals as goal

pub returns : goal.returns
unfolding lane
returns c =
    rw (
      c.even.ensures,
      c.even-2.ensures,
      c.even-3.ensures,
      c.even-4.ensures,
      c.even-5.ensures,
      c.even-6.ensures,
      c.even-7.ensures,
      c.even-8.ensures,
    )
    (rw (
      c.odd.ensures,
      c.odd-2.ensures,
      c.odd-3.ensures,
      c.odd-4.ensures,
    )
    (rw (
      c.odd-5.ensures,
      c.odd-6.ensures,
      c.odd-7.ensures,
      c.odd-8.ensures,
    )
    (record { left = below_four _ refl refl refl refl; right = below_four _ refl refl refl refl })))
