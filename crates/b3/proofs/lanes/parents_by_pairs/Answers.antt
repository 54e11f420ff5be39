use Rattle.std.proofs.Common.{refl, ◌∙◌, arith}
use Rattle.b3.specs.Node.{cv}
use Rattle.b3.specs.Tree.{parent}
use Rattle.words.proofs.LaneLemmas.{below_four}
use Rattle.b3.proofs.lanes.parents_by_pairs.Goals as goal

pub returns : goal.returns
unfolding cv parent
returns c =
    let row = c.pair_rows.ensures in
    let over = c.next_pairs-over.ensures in
    let key = c.same_halves-h.ensures in
    let d = c.parent_flags-d.ensures in
    below_four _
    (row 0 (omega arith) ∙ over 0 (omega arith) 0 (omega arith)
    ∙ rw (key 0 (omega arith), c.parent_halves-left.ensures.first, d) refl)
    (row 1 (omega arith) ∙ over 0 (omega arith) 1 (omega arith)
    ∙ rw (key 1 (omega arith), c.parent_halves-left.ensures.second, d) refl)
    (row 2 (omega arith) ∙ over 1 (omega arith) 0 (omega arith)
    ∙ rw (key 0 (omega arith), c.parent_halves-right.ensures.first, d) refl)
    (row 3 (omega arith) ∙ over 1 (omega arith) 1 (omega arith)
    ∙ rw (key 1 (omega arith), c.parent_halves-right.ensures.second, d) refl)
