use Rattle.std.proofs.Common.{ℕ, ◌/◌, ◌^◌, ◌≤◌, arith, pow_mono}
use Rattle.std.specs.Int.Count.{count_trailing_zeros}
use Rattle.b3.proofs.Powers.{eight_multiple, trailing_multiple}
use Rattle.b3.proofs.hasher.run_level.Goals as goal

pub returns-clause-aligned : goal.returns-clause-aligned
returns-clause-aligned c =
    let level : ℕ = c.min-2.result in
    let few : level ≤ count_trailing_zeros 64 (c.args.closed / 8) = omega (arith, c.min.ensures, c.min-2.ensures) in
    eight_multiple c.args.closed level c.requires.aligned (trailing_multiple 64 (c.args.closed / 8) level few)

pub returns-clause-run : goal.returns-clause-run
returns-clause-run c =
    let few : c.min-2.result ≤ c.ilog2-longest.result = omega (arith, c.min.ensures, c.min-2.ensures) in
    let power : 2 ^ c.min-2.result ≤ 2 ^ c.ilog2-longest.result = pow_mono few in
    omega (arith, power, c.ilog2-longest.ensures.power_le)
