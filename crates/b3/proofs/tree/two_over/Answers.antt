use Rattle.std.proofs.Common.{◌≡◌, ℕ, ◌+◌, List, refl, sym, ap, ap₂, ◌∙◌, arith}
use Rattle.b3.specs.Node.{cv}
use Rattle.b3.specs.Tree.{chunk_count, tree, parent, IsGreatestPowerBelow}
use Rattle.b3.proofs.Folding.{tree_split}
use Rattle.b3.proofs.tree.two_over.Goals as goal

pub returns : goal.returns
returns c =
    let key : List ℕ = c.args.parameters.now.key in
    let flags : ℕ = c.args.parameters.now.flags in
    let first : ℕ = c.args.first in
    let cut : IsGreatestPowerBelow 1 (chunk_count c.args.bytes.now) = (0, refl, omega arith, omega arith) in
    let left = c.chaining_value-left.ensures ∙ ap cv c.chunk_over.ensures
    ∙ ap (λ (m : List ℕ). cv (tree key flags first m)) c.split_at.ensures.front in
    let right = c.chaining_value-right.ensures ∙ ap cv c.chunk_over-2.ensures
    ∙ ap (λ (m : List ℕ). cv (tree key flags (first + 1) m)) c.split_at.ensures.back in
    c.parent.ensures ∙ ap₂ (λ (x y : List ℕ). parent key flags x y) left right
    ∙ sym (tree_split key flags first 1 c.args.bytes.now cut)
