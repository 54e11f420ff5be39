use Rattle.std.proofs.Common.{◌∙◌, arith, refl}
use Rattle.listing.proofs.state.ListState.end_line.Goals as goal

-- the number of the line is one more
pub returns-clause-ended : goal.returns-clause-ended
returns-clause-ended c = λ k n b holds.
    let means = c.read_with.ensures.means k b holds.mark holds.held in
    let same = c.read_with.ensures.same in
    let lines = holds.lines in
    record {
      number = omega (arith, same.1, lines);
      means = record {
        some = means.some;
        skipped = means.skipped;
        malformed = means.malformed;
        untagged = means.untagged;
        entry = λ is. let it = means.entry is in
            (it.0, it.1, record { hash = it.2.hash; digest = it.2.digest; name = it.2.name });
      };
    }

-- nothing is held after the line
pub returns-clause-next : goal.returns-clause-next
returns-clause-next c = λ k n b holds.
    let same = c.read_with.ensures.same in
    let lines = holds.lines in
    record {
      mark = same.0 ∙ holds.mark;
      lines = omega (arith, same.1, lines);
      held = (refl, omega arith);
      free = λ some. absurd (omega (arith, some.1));
    }
