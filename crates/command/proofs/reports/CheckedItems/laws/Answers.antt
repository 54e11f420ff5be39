use Rattle.command.proofs.Reporting.{lists_both, lists_none}
use Rattle.command.proofs.reports.CheckedItems.laws.Goals as goal

pub returns-clause-keeps_none : goal.returns-clause-keeps_none
returns-clause-keeps_none g c = λ s. lists_none (g.L.Feed.remaining s.input.now) (g.T.Tree.files s.tree.now) _

pub returns-clause-keeps_both : goal.returns-clause-keeps_both
returns-clause-keeps_both g c = λ x y a b d p q. lists_both x y _ _ _ _ _ _ _ _ _ p q
