use Rattle.std.proofs.Common.{◌≡◌, ℕ, ◌+◌, ◌-◌, ◌*◌, ◌<◌, List, [], length, take, drop, sym, ◌∙◌, arith, length-drop}
use Rattle.std.proofs.Common.{length-take-le}
use Rattle.std.proofs.lemmas.List.{get_or-take}
use Rattle.b3.specs.Tree.{chunk_count, IsGreatestPowerBelow}
use Rattle.b3.proofs.Values.{left_count, right_count, left_values, right_values, split_node}
use Rattle.b3.proofs.tree.group_over.Goals as goal

pub returns : goal.returns
returns c =
    let key = c.args.parameters.now.key in
    let flags = c.args.parameters.now.flags in
    let first : ℕ = c.args.first in
    let m : List ℕ = c.args.bytes.now in
    let n : ℕ = chunk_count m in
    let p : ℕ = c.greatest_power_below-middle.result in
    let values : List (List ℕ) = c.group_values-values.result in
    let cut : IsGreatestPowerBelow p n = c.greatest_power_below-middle.ensures in
    let within : p < n = cut.2 in
    let each = c.group_values-values.ensures in
    let size : length values ≡ 8 = omega arith in
    let front : length (take p values) ≡ p = length-take-le p values (omega (arith, within, size)) in
    let rest : length (drop p values) ≡ 8 - p = omega (arith, length-drop p values, size) in
    let back : length (take (n - p) (drop p values)) ≡ n - p
    = length-take-le (n - p) (drop p values) (omega (arith, rest, within)) in
    let lefts = left_values key flags first p m values cut each in
    let rights = right_values key flags first p m values cut each in
    let left = c.joined_value-left.ensures first (take (1024 * p) m)
    (left_count key flags first p m values cut each ∙ sym front) (λ i h. lefts i (omega (arith, front, h))) in
    let right = c.joined_value-right.ensures (first + p) (drop (1024 * p) m)
    (right_count key flags first p m values cut each ∙ sym back)
    (λ i h. get_or-take (n - p) (drop p values) i [] (omega (arith, back, h)) ∙ rights i (omega (arith, back, h))) in
    c.parent.ensures ∙ split_node key flags first p m values cut each _ _ left right
