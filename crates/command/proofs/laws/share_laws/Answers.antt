use Rattle.command.proofs.SharedNames.{listed_shares_are_run, shares_are_run}
use Rattle.command.proofs.laws.share_laws.Goals as goal

pub returns-clause-given : goal.returns-clause-given
returns-clause-given c = shares_are_run

pub returns-clause-listed : goal.returns-clause-listed
returns-clause-listed c = listed_shares_are_run
