use Rattle.std.proofs.Common.{◌≡◌, ◌+◌, ℕ, refl, ◌∙◌, arith}
use Rattle.std.proofs.lemmas.Simd.{get_or-replicate}
use Rattle.b3.specs.Node.{cv}
use Rattle.b3.specs.Tree.{parent}
use Rattle.b3.proofs.lanes.parent_lanes.Goals as goal

pub returns-clause-left : goal.returns-clause-left
unfolding cv parent
returns-clause-left c = λ i h.
    let d : c.from.result + c.from-2.result ≡ c.args.parameters.now.flags + 4 = omega arith in
    let none = get_or-replicate {A = ℕ} 8 i 0 0 (omega arith) in
    c.next_lanes.ensures i (omega arith)
    ∙ rw (c.same_lanes.ensures i (omega arith), c.pair_lanes.ensures.left i h, d, none) refl

pub returns-clause-right : goal.returns-clause-right
unfolding cv parent
returns-clause-right c = λ i h.
    let d : c.from.result + c.from-2.result ≡ c.args.parameters.now.flags + 4 = omega arith in
    let none = get_or-replicate {A = ℕ} 8 (4 + i) 0 0 (omega arith) in
    c.next_lanes.ensures (4 + i) (omega arith)
    ∙ rw (c.same_lanes.ensures (4 + i) (omega arith), c.pair_lanes.ensures.right i h, d, none) refl
