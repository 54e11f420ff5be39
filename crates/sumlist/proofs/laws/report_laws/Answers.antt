use Rattle.sumlist.proofs.Deciding.{all_settled, outcomes_unique}
use Rattle.sumlist.proofs.laws.report_laws.Goals as goal

pub returns-clause-one : goal.returns-clause-one
returns-clause-one c = λ files m lines. let s = all_settled files m lines in
    (s.0, (s.1, s.2), λ ps p. outcomes_unique files m lines s.0 ps s.1 p.0 s.2 p.1)
