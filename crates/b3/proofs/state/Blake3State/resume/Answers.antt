use Rattle.b3.specs.inside.States.{StateHolds}
use Rattle.b3.proofs.state.Blake3State.resume.Goals as goal

pub returns-clause-holds : goal.returns-clause-holds
unfolding StateHolds
returns-clause-holds c = λ p m held. held.2 c.hasher.result c.hasher.ensures
