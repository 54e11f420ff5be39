use Rattle.command.proofs.Counting.{report_same}
use Rattle.command.proofs.told.ByReportItems.next.Goals as goal

pub returns-clause-had : goal.returns-clause-had
returns-clause-had g c = report_same _ _ _ _
