use Rattle.std.proofs.Common.{◌≡◌, ℕ, List, ◌+◌, ◌*◌, ◌^◌, length, arith, sym, ap, ap₂, ◌∙◌}
use Rattle.std.proofs.lemmas.List.{take_rest}
use Rattle.b3.specs.Node.{cv}
use Rattle.b3.specs.Tree.{tree, parent}
use Rattle.b3.proofs.Folding.{tree_split}
use Rattle.b3.proofs.Holding.{eight_pow}
use Rattle.b3.proofs.Runs.{run_whole}
use Rattle.b3.proofs.tree.+tree.Goals as goal

pub tree_over-returns : goal.tree_over-returns
tree_over-returns t c =
    let key : List ℕ = c.args.parameters.now.key in
    let flags : ℕ = c.args.parameters.now.flags in
    let p : ℕ = c.greatest_power_below-chunks.result in
    c.parent.ensures
    ∙ ap₂ (λ (x y : List ℕ). parent key flags x y) c.value_over-left.ensures
    (c.value_over-right.ensures
    ∙ ap (λ (x : List ℕ). cv (tree key flags (c.args.first + p) x)) (take_rest c.args.bytes.now (1024 * p)))
    ∙ sym (tree_split key flags c.args.first p c.args.bytes.now c.greatest_power_below-chunks.ensures)

pub value_over-returns-in-Some : goal.value_over-returns-in-Some
value_over-returns-in-Some t c =
    let level : ℕ = c.in-Some.level in
    let size : length c.args.bytes.now ≡ 8192 * 2 ^ level = c.in-Some.ensures in
    c.subtree_of.ensures
    ∙ run_whole c.args.parameters.now.key c.args.parameters.now.flags c.args.first c.args.bytes.now (level + 3)
    (omega (arith, size, eight_pow level))
