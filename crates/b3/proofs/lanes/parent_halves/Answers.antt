use Rattle.std.proofs.Common.{refl}
use Rattle.words.specs.inside.Halves.{half_message}
use Rattle.words.proofs.LaneLemmas.{listed}
use Rattle.b3.proofs.lanes.parent_halves.Goals as goal

pub returns : goal.returns
unfolding half_message
returns c =
    rw (listed 8 _ c.fits-a.0, listed 8 _ c.fits-b.0, listed 8 _ c.fits-c.0, listed 8 _ c.fits-d.0)
    (record { first = refl; second = refl })
