use Rattle.std.proofs.lemmas.Grind.{common_steps}
use Rattle.std.proofs.Common.{arith, pow_pos}
use Rattle.command.proofs.TakenParts.{feed_left}
use Rattle.command.proofs.places.GoingPlaces.part.Goals as goal

pub returns-clause-left : goal.returns-clause-left
returns-clause-left g c = grind (arith, common_steps, pow_pos, feed_left)
