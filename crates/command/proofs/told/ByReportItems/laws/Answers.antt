use Rattle.command.proofs.Counting.{report_counted_more}
use Rattle.command.proofs.told.ByReportItems.laws.Goals as goal

pub returns-clause-counted_more : goal.returns-clause-counted_more
returns-clause-counted_more g c = λ f h a b d p q. report_counted_more f h _ _ _ _ _ _ _ _ _ p q
