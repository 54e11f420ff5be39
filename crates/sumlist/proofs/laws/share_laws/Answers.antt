use Rattle.sumlist.proofs.Shares.{in_turn}
use Rattle.sumlist.proofs.laws.share_laws.Goals as goal

pub returns : goal.returns
returns g c = in_turn
