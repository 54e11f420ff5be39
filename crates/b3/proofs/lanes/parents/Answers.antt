use Rattle.std.proofs.Common.{◌≡◌, ◌+◌, refl, ◌∙◌, arith}
use Rattle.b3.specs.Node.{cv}
use Rattle.b3.specs.Tree.{parent}
use Rattle.words.proofs.LaneLemmas.{below_four}
use Rattle.b3.proofs.lanes.parents.Goals as goal

pub returns : goal.returns
unfolding cv parent
returns c =
    let d : c.from.result + c.from-2.result ≡ c.args.parameters.now.flags + 4 = omega arith in
    below_four _
    (c.compress_3x8.ensures 0 (omega arith) ∙ rw (c.pair.ensures, d) refl)
    (c.compress_3x8.ensures 1 (omega arith) ∙ rw (c.pair-2.ensures, d) refl)
    (c.compress_3x8.ensures 2 (omega arith) ∙ rw (c.pair-3.ensures, d) refl)
    (c.compress_3x8.ensures 3 (omega arith) ∙ rw (c.pair-4.ensures, d) refl)
