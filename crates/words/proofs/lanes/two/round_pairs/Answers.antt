use Rattle.words.proofs.LaneLemmas.{below_two}
use Rattle.words.proofs.lanes.two.round_pairs.Goals as goal

pub returns : goal.returns
returns c = below_two _ c.round_halves.ensures c.round_halves-2.ensures
