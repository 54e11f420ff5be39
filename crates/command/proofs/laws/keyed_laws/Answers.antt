use Rattle.command.proofs.TagLines.{tags_ok}
use Rattle.command.proofs.laws.keyed_laws.Goals as goal

pub returns : goal.returns
returns c = tags_ok
