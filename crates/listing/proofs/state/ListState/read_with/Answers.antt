use Rattle.std.proofs.Common.{arith, ◌∙◌}
use Rattle.sumlist.proofs.Cutting.{IsKept-after}
use Rattle.listing.proofs.Lines.{held_bytes, number_one}
use Rattle.listing.specs.inside.State.{held}
use Rattle.listing.proofs.state.ListState.read_with.Goals as goal

-- nothing is held, so that the line is what ends it
pub returns-then-self-eq0-clause-means : goal.returns-then-self-eq0-clause-means
returns-then-self-eq0-clause-means c = λ k b mark kept.
    let same = number_one k c.kind.result (omega (arith, c.kind.ensures, mark)) in
    let text = held_bytes c.args.self.now b (omega arith) kept in
    rw (text, c.if-self-eq0.true, same) c.read_line.ensures.means

-- what is held after that is the whole line
pub returns-else-self-eq0-clause-means : goal.returns-else-self-eq0-clause-means
returns-else-self-eq0-clause-means c = λ k b mark kept.
    c.read_held.ensures.means k _ (c.keep.ensures.same.0 ∙ mark)
    (rw c.keep.ensures.held (IsKept-after (held c.args.self.now) b c.args.front.now kept))
