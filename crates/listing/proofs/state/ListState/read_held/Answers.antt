use Rattle.std.proofs.Common.{arith}
use Rattle.listing.proofs.Lines.{held_bytes, number_one}
use Rattle.listing.proofs.state.ListState.read_held.Goals as goal

-- the line that was read is the one that is held, in a list for the same hash
pub returns-else-self-gt-MOST-clause-means : goal.returns-else-self-gt-MOST-clause-means
returns-else-self-gt-MOST-clause-means c = λ k b mark kept.
    let same = number_one k c.kind.result (omega (arith, c.kind.ensures, mark)) in
    let text = held_bytes c.args.self.now b c.if-self-gt-MOST.false kept in
    rw (text, same) c.read_line.ensures.means
