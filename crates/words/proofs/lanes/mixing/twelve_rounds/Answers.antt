use Rattle.std.proofs.Common.{refl}
use Rattle.words.specs.Blake2.{rounds}
use Rattle.words.proofs.lanes.mixing.twelve_rounds.Goals as goal

pub returns : goal.returns
unfolding rounds
returns g c i h = rw (c.round_in_turn.ensures i h, c.round_in_turn-v.ensures i h, c.ten_rounds-v.ensures i h) refl
