use Rattle.std.proofs.Common.{append-nil}
use Rattle.listing.proofs.state.ListState.end.Goals as goal

-- nothing more comes to the line that has begun
pub returns-clause-line : goal.returns-clause-line
returns-clause-line c = λ k n b holds some. rw append-nil at (c.end_line.ensures.ended k n b holds)

pub returns-clause-next : goal.returns-clause-next
returns-clause-next c = λ k n b holds some. c.end_line.ensures.next k n b holds
