use Rattle.words.specs.inside.Halves.{half_message}
use Rattle.words.proofs.lanes.two.permute_halves.Goals as goal

pub returns : goal.returns
unfolding half_message
returns c = c.permuted.ensures
