use Rattle.std.proofs.Common.{sym}
use Rattle.words.proofs.LaneLemmas.{below_four, listed}
use Rattle.pieces.proofs.lanes2.words64.same_lanes.Goals as goal

pub returns : goal.returns
returns c =
    let own = sym (listed 8 c.args.h.now c.told-h) in
    below_four _ own own own own
