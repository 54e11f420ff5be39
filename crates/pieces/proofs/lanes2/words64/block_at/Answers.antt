use Rattle.std.proofs.Common.{◌≡◌, ℕ, ◌+◌, ◌-◌, take, drop, arith, ap}
use Rattle.pieces.proofs.lanes2.words64.block_at.Goals as goal

pub returns-clause-block : goal.returns-clause-block
returns-clause-block c =
    let width : c.args.at + 128 - c.args.at ≡ 128 = omega arith in
    ap (λ (n : ℕ). take n (drop c.args.at c.args.bytes.now)) width
