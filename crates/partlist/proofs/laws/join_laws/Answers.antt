use Rattle.partlist.proofs.Outcomes.{none_stops, one_stop}
use Rattle.partlist.proofs.laws.join_laws.Goals as goal

pub returns-clause-none : goal.returns-clause-none
returns-clause-none c = none_stops

pub returns-clause-one : goal.returns-clause-one
returns-clause-one c = one_stop
