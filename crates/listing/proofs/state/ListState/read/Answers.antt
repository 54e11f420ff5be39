use Rattle.std.proofs.Common.{arith}
use Rattle.listing.proofs.Lines.{none_from_no}
use Rattle.listing.proofs.state.ListState.read.Goals as goal

-- the piece was read up to its first LF
pub returns-clause-read : goal.returns-clause-read
returns-clause-read c = λ k n b holds.
    let ended = c.end_line.ensures.ended k n b holds in
    let least = ended.means.some.0 in
    record {
      none = λ is. absurd (omega (arith, least, is));
      line = λ _. (
        c.in-Some.front.now,
        c.in-Some.field-0-1.now,
        c.in-Some.ensures.0,
        none_from_no 10 c.in-Some.front.now c.in-Some.ensures.1,
        c.end_line.ensures.taken,
        ended,
      );
    }

pub returns-clause-held : goal.returns-clause-held
returns-clause-held c = λ k n b holds.
    let ended = c.end_line.ensures.ended k n b holds in
    let least = ended.means.some.0 in
    record {
      none = λ is. absurd (omega (arith, least, is));
      line = λ _. c.end_line.ensures.next k n b holds;
    }
