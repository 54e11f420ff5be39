use Rattle.command.proofs.SharedParts.{compared_are_run, parts_are_run}
use Rattle.command.proofs.laws.part_share_laws.Goals as goal

pub returns-clause-printed : goal.returns-clause-printed
returns-clause-printed c = parts_are_run

pub returns-clause-compared : goal.returns-clause-compared
returns-clause-compared c = compared_are_run
