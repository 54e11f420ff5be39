use Rattle.std.proofs.Common.{refl, ◌∙◌}
use Rattle.words.specs.Blake3.{compress3}
use Rattle.words.proofs.Halves.{halves_folded}
use Rattle.words.proofs.lanes.two.next_halves.Goals as goal

pub returns : goal.returns
unfolding compress3
returns u c i h =
    halves_folded c.rounds_halves.result _ _ c.xor.ensures.lanes c.xor-2.ensures.lanes i h
    ∙ rw (c.rounds_halves.ensures i h, c.working_halves.ensures i h) refl
