use Rattle.command.proofs.SharedChecks.{checks_are_run}
use Rattle.command.proofs.laws.check_share_laws.Goals as goal

pub returns : goal.returns
returns c = checks_are_run
