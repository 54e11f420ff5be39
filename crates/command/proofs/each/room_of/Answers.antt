use Rattle.std.proofs.Common.{◌≡◌, ℕ, ◌+◌, ◌-◌, ◌/◌, ◌≤◌, arith}
use Rattle.b3.proofs.Powers.{least_from}
use Rattle.command.proofs.each.room_of.Goals as goal

pub returns : goal.returns
returns c =
    let p : ℕ = c.next_power_of_two.result in
    let len : ℕ = c.args.part.now.len in
    let is = c.len.ensures in
    let count : c.saturating_sub.result / 1024 + 1 ≡ (len - 1) / 1024 + 1 = omega (arith, is) in
    let power = c.next_power_of_two.ensures in
    let least = rw count at (least_from p _ power.power power.lower_bound power.upper_bound (omega arith)) in
    let from : (len - 1) / 1024 + 1 ≤ p = least.2 in
    record {
      power = (least.0, least.1);
      aligned = c.args.part.now.placed.2 p least;
      enough = omega (arith, from);
    }
