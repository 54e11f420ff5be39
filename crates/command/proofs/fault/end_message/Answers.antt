use Rattle.std.proofs.Common.{◌∙◌}
use Rattle.command.proofs.VisibleNames.{visible-none}
use Rattle.command.proofs.fault.end_message.Goals as goal

pub returns-in-NoParts : goal.returns-in-NoParts
returns-in-NoParts c = rw c.in-NoParts.is (c.of.ensures ∙ visible-none _)

pub returns-in-Alone : goal.returns-in-Alone
returns-in-Alone c = rw c.in-Alone.is (c.of-in-Alone.ensures ∙ visible-none _)

pub returns-in-EndsAfter : goal.returns-in-EndsAfter
returns-in-EndsAfter c = rw c.in-EndsAfter.is (c.of_number.ensures ∙ visible-none _)
