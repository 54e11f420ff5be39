use Rattle.std.proofs.Common.{◌≡◌, ℕ, ◌*◌, ◌/◌, ◌^◌, ap, sym, ◌∙◌, arith, eqb-true, eq-eqb, count_ones}
use Rattle.b3.proofs.Powers.{ones_pow, pow_from_ones}
use Rattle.b3.proofs.place.is_whole.Goals as goal

pub returns-then-len-eq0 : goal.returns-then-len-eq0
returns-then-len-eq0 c = (
  λ yes.
      let n : ℕ = c.args.len / 1024 in
      let one : count_ones n ≡ 1 = eqb-true (count_ones n) 1 (sym c.is_power_of_two.ensures ∙ yes) in
      let power = pow_from_ones 64 n (omega arith) one in
      let is : n ≡ 2 ^ power.0 = power.1 in
      (power.0, omega arith),
  λ whole.
      let e : ℕ = whole.0 in
      let is : c.args.len ≡ 1024 * 2 ^ e = whole.1 in
      let chunks : c.args.len / 1024 ≡ 2 ^ e = omega arith in
      c.is_power_of_two.ensures ∙ eq-eqb (count_ones (c.args.len / 1024)) 1 (ap count_ones chunks ∙ ones_pow e),
)
