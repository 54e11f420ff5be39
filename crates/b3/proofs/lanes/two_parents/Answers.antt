use Rattle.std.proofs.Common.{refl, ◌∙◌, arith}
use Rattle.b3.specs.Node.{cv}
use Rattle.b3.specs.Tree.{parent}
use Rattle.words.proofs.LaneLemmas.{below_two}
use Rattle.b3.proofs.lanes.two_parents.Goals as goal

pub returns : goal.returns
unfolding cv parent
returns c =
    let row = c.half_rows.ensures.written in
    let over = c.next_halves-over.ensures in
    let key = c.same_halves-h.ensures in
    let d = c.parent_flags-d.ensures in
    below_two _
    (row 0 (omega arith) ∙ over 0 (omega arith)
    ∙ rw (key 0 (omega arith), c.parent_halves-message.ensures.first, d) refl)
    (row 1 (omega arith) ∙ over 1 (omega arith)
    ∙ rw (key 1 (omega arith), c.parent_halves-message.ensures.second, d) refl)
