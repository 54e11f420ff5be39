use Rattle.std.proofs.Common.{arith}
use Rattle.b3.proofs.Holding.{ones-lt}
use Rattle.b3.specs.inside.Rooms.{hasher_count-holds}
use Rattle.b3.proofs.hasher.Blake3.held.Goals as goal

pub returns-clause-together : goal.returns-clause-together
returns-clause-together c m held full =
    let stack = c.args.self.now.stack in
    let count = hasher_count-holds c.args.self.now m held in
    let fits = c.args.self.now.length_fits in
    let few = ones-lt 54 stack.closed (omega (arith, count, fits, full, held.last)) in
    omega (arith, few, stack.one_bits, c.len.ensures)
