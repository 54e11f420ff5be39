use Rattle.command.proofs.VisibleNames.{visible-plain, visible-quiet}
use Rattle.command.proofs.laws.visible_laws.Goals as goal

pub returns : goal.returns
returns c = record { quiet = visible-quiet; plain = visible-plain }
