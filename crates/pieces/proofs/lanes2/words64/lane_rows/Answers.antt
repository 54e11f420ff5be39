use Rattle.std.proofs.Common.{refl}
use Rattle.words.proofs.LaneLemmas.{below_four}
use Rattle.pieces.proofs.lanes2.words64.lane_rows.Goals as goal

pub returns : goal.returns
returns c =
    below_four _
    (rw (c.joined.ensures, c.transpose.ensures, c.transpose-2.ensures) refl)
    (rw (c.joined-2.ensures, c.transpose.ensures, c.transpose-2.ensures) refl)
    (rw (c.joined-3.ensures, c.transpose.ensures, c.transpose-2.ensures) refl)
    (rw (c.joined-4.ensures, c.transpose.ensures, c.transpose-2.ensures) refl)
