use Rattle.std.proofs.Common.{◌≡◌, ℕ, ◌+◌, ◌-◌, ◌*◌, ◌<◌, List, length, take, drop, sym, ap, subst, ◌∙◌, arith}
use Rattle.std.proofs.Common.{length-drop, length-take-le}
use Rattle.std.proofs.lemmas.List.{take_rest}
use Rattle.b3.specs.Node.{cv}
use Rattle.b3.specs.Tree.{chunk_count, IsGreatestPowerBelow}
use Rattle.b3.proofs.Values.{one_value, left_count, right_count, left_values, right_values, split_node}
use Rattle.b3.proofs.tree.+joined_value.Goals as goal

pub returns-then-values-eq1 : goal.returns-then-values-eq1
returns-then-values-eq1 t c = λ first m counted held.
    held 0 (omega arith) ∙ one_value c.args.parameters.now.key c.args.parameters.now.flags first m
    (omega (arith, counted))

pub returns : goal.returns
returns t c = λ first m counted held.
    let key = c.args.parameters.now.key in
    let flags = c.args.parameters.now.flags in
    let values : List (List ℕ) = c.args.values.now in
    let p : ℕ = c.greatest_power_below-middle.result in
    let cut : IsGreatestPowerBelow p (chunk_count m)
    = subst (λ (n : ℕ). IsGreatestPowerBelow p n) (sym counted) c.greatest_power_below-middle.ensures in
    let within : p < length values = c.greatest_power_below-middle.ensures.2 in
    let each = λ (i : ℕ) (h : i < chunk_count m). held i (omega (arith, counted, h)) in
    let front : length (take p values) ≡ p = length-take-le p values (omega (arith, within)) in
    let rest : take (length values - p) (drop p values) ≡ drop p values = take_rest values p in
    let back : length (drop p values) ≡ length values - p = length-drop p values in
    let lefts = left_values key flags first p m values cut each in
    let rights = right_values key flags first p m values cut each in
    let left = c.joined_value-left.ensures first (take (1024 * p) m)
    (left_count key flags first p m values cut each ∙ sym front) (λ i h. lefts i (omega (arith, front, h))) in
    let right = (rw rest at c.joined_value-right.ensures) (first + p) (drop (1024 * p) m)
    (right_count key flags first p m values cut each ∙ omega (arith, counted, back))
    (λ i h. rights i (omega (arith, counted, back, h))) in
    c.chaining_value.ensures
    ∙ ap cv (c.parent.ensures ∙ split_node key flags first p m values cut each _ _ left right)
