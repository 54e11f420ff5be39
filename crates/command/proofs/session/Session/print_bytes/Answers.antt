use Rattle.std.proofs.lemmas.Grind.{common_steps}
use Rattle.std.proofs.Common.{arith}
use Rattle.command.proofs.session.Session.print_bytes.Goals as goal

pub returns-in-Sha256-clause-key : goal.returns-in-Sha256-clause-key
returns-in-Sha256-clause-key g c = grind (arith, common_steps)

pub returns-in-Sha512-clause-key : goal.returns-in-Sha512-clause-key
returns-in-Sha512-clause-key g c = grind (arith, common_steps)

pub returns-in-Blake2b-clause-key : goal.returns-in-Blake2b-clause-key
returns-in-Blake2b-clause-key g c = grind (arith, common_steps)

pub returns-in-Blake2s-clause-key : goal.returns-in-Blake2s-clause-key
returns-in-Blake2s-clause-key g c = grind (arith, common_steps)
