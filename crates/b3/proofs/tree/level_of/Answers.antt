use Rattle.std.proofs.Common.{◌≡◌, ℕ, ◌/◌, ◌^◌, sym, ◌∙◌, arith, eqb-true, count_ones}
use Rattle.b3.proofs.Powers.{pow_from_ones, power_between}
use Rattle.b3.proofs.tree.level_of.Goals as goal

pub returns-then-is_power_of_two : goal.returns-then-is_power_of_two
returns-then-is_power_of_two c =
    let groups : ℕ = c.args.len / 8192 in
    let one : count_ones groups ≡ 1
    = eqb-true (count_ones groups) 1 (sym c.is_power_of_two.ensures ∙ c.if-is_power_of_two.true) in
    let power = pow_from_ones 64 groups (omega arith) one in
    let level : 2 ^ c.ilog2.result ≡ groups
    = power_between power.0 c.ilog2.result groups power.1 c.ilog2.ensures.power_le c.ilog2.ensures.next_power_gt in
    omega (arith, level)
