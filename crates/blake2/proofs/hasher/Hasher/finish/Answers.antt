use Rattle.std.proofs.Common.{refl, ◌∙◌}
use Rattle.blake2.specs.Blake2.{blake2}
use Rattle.blake2.proofs.hasher.Hasher.finish.Goals as goal

pub returns-clause-digest : goal.returns-clause-digest
unfolding blake2
returns-clause-digest g c = λ m held. c.tag.ensures.value ∙ rw (c.finish.ensures _ _ held) refl
