use Rattle.std.proofs.Common.{◌≡◌, ◌-◌, ◌*◌, length, arith}
use Rattle.b3.proofs.row.Row.node.Goals as goal

pub returns : goal.returns
returns c = λ m held.
    let self = c.args.self.now in
    let len : length m - 1024 * self.stack.closed ≡ self.len = omega (arith, held.len) in
    c.fold.ensures self.first_chunk m held.stack (rw len self.last) held.value
