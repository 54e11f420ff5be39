use Rattle.std.proofs.Common.{refl}
use Rattle.words.proofs.lanes.mixing.begin_mix.Goals as goal

pub returns : goal.returns
returns g c i h =
    rw (c.turn2-b.ensures i h, c.sum-c.ensures i h, c.turn1-d.ensures i h)
    (rw (c.sum-a.ensures i h, c.sum.ensures i h) refl)
