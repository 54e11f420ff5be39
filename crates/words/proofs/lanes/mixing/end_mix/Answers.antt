use Rattle.std.proofs.Common.{ap, slice_index}
use Rattle.words.specs.Mix.{g as mixed}
use Rattle.words.specs.inside.Rows.{half_g}
use Rattle.words.proofs.lanes.mixing.end_mix.Goals as goal

pub returns : goal.returns
unfolding mixed
returns g c i h v x begun =
    rw (c.turn4-b.ensures i h, c.sum-c.ensures i h, c.turn3-d.ensures i h)
    (rw (c.sum-a.ensures i h, c.sum.ensures i h)
    (ap (λ w. half_g g.V.WordLanes.variant 2 w (slice_index (g.V.WordLanes.words c.args.y) i)) begun))
