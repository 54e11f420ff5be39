use Rattle.std.proofs.Common.{◌≡◌, ◌+◌, ◌-◌, ◌*◌, ◌%◌, ℕ, arith}
use Rattle.std.proofs.lemmas.Nat.{mod-mul-add}
use Rattle.std.proofs.Math.Nat.{mod-eq_of_lt, mod-lt}
use Rattle.pieces.proofs.sha_lanes.blocks_left.Goals as goal

pub returns-then-len-size-clause-filled : goal.returns-then-len-size-clause-filled
returns-then-len-size-clause-filled g c =
    let n : ℕ = g.row.N in
    let z : ℕ = n - 1 - c.args.size - c.args.len % n in
    let over : 2 * n - 1 - c.args.size - c.args.len % n ≡ 1 * n + z = omega arith in
    let zeros : (2 * n - 1 - c.args.size - c.args.len % n) % n ≡ z = rw over (mod-mul-add 1 n z (omega arith)) in
    omega (arith, zeros)

pub returns-else-len-size-clause-filled : goal.returns-else-len-size-clause-filled
returns-else-len-size-clause-filled g c =
    let n : ℕ = g.row.N in
    let below = mod-lt c.args.len {m = n} (omega arith) in
    let zeros : (2 * n - 1 - c.args.size - c.args.len % n) % n ≡ 2 * n - 1 - c.args.size - c.args.len % n =
    mod-eq_of_lt (omega (arith, below)) in
    omega (arith, zeros, below)
