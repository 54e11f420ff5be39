use Rattle.std.proofs.Common.{◌≡◌, ◌+◌, ◌-◌, ◌*◌, ◌^◌, ◌≤◌, refl, arith, add-zero}
use Rattle.std.proofs.Math.Nat.{mul-mod_right}
use Rattle.b3.proofs.row.Row.of.Goals as goal

pub invariant_of-result-clause-placed : goal.invariant_of-result-clause-placed
invariant_of-result-clause-placed c =
    let len : 1024 * c.new.result.closed + c.args.part.len ≡ c.args.part.len = omega (arith, c.new.ensures.closed) in
    rw len c.args.part.placed

pub invariant_of-result-clause-last : goal.invariant_of-result-clause-last
invariant_of-result-clause-last c =
    let limit : 1024 * c.args.part.first_chunk + c.args.part.len ≤ 2 ^ 64 - 1 = c.args.part.placed.1 in
    rw c.new.ensures.closed (
      λ none. refl,
      omega arith,
      λ p least.
          let z : p * 0 ≡ 0 = omega arith in
          rw z at (mul-mod_right p 0),
    )

pub returns-clause-holds : goal.returns-clause-holds
returns-clause-holds c = λ m is_value. record {
  len = omega (arith, is_value.len, c.new.ensures.closed);
  stack = c.new.ensures.holds c.args.part.first_chunk m;
  value = rw (
    c.new.ensures.parameters,
    c.new.ensures.closed,
    c.parameters.ensures.key,
    c.parameters.ensures.flags,
    add-zero,
  ) is_value.value;
}
