use Rattle.std.proofs.Common.{[], slice_index_or, arith, refl, ◌∙◌}
use Rattle.words.specs.Blake3.{compress3}
use Rattle.words.proofs.Halves.{halves_folded}
use Rattle.words.proofs.LaneLemmas.{below_two}
use Rattle.words.proofs.lanes.two.next_pairs.Goals as goal

pub returns : goal.returns
unfolding compress3
returns u c =
    below_two _
    (below_two _
    (halves_folded (slice_index_or c.rounds_pairs.result 0 []) _ _ c.xor.ensures.lanes c.xor-2.ensures.lanes 0 (omega arith)
    ∙ rw (c.rounds_pairs.ensures 0 (omega arith) 0 (omega arith), c.working_halves.ensures 0 (omega arith)) refl)
    (halves_folded (slice_index_or c.rounds_pairs.result 0 []) _ _ c.xor.ensures.lanes c.xor-2.ensures.lanes 1 (omega arith)
    ∙ rw (c.rounds_pairs.ensures 0 (omega arith) 1 (omega arith), c.working_halves.ensures 1 (omega arith)) refl))
    (below_two _
    (halves_folded (slice_index_or c.rounds_pairs.result 1 []) _ _ c.xor-3.ensures.lanes c.xor-4.ensures.lanes 0 (omega arith)
    ∙ rw (c.rounds_pairs.ensures 1 (omega arith) 0 (omega arith), c.working_halves-2.ensures 0 (omega arith)) refl)
    (halves_folded (slice_index_or c.rounds_pairs.result 1 []) _ _ c.xor-3.ensures.lanes c.xor-4.ensures.lanes 1 (omega arith)
    ∙ rw (c.rounds_pairs.ensures 1 (omega arith) 1 (omega arith), c.working_halves-2.ensures 1 (omega arith)) refl))
