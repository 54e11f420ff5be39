use Rattle.words.proofs.LaneLemmas.{below_two}
use Rattle.words.proofs.lanes.two.permute_pairs.Goals as goal

pub returns : goal.returns
returns c = below_two _ c.permute_halves.ensures c.permute_halves-2.ensures
