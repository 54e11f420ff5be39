use Rattle.partlist.proofs.Ahead.{behind_line}
use Rattle.partlist.proofs.reader.PartReader.take.Goals as goal

pub returns-clause-line : goal.returns-clause-line
returns-clause-line c = (
  c.in-Some.front.now,
  c.in-Some.ensures.1,
  c.in_ok-hold-2.ensures.held.0,
  behind_line c.args.self.now.start _ c.in-Some.front.now _ (rw c.split_at.ensures.back at c.in-Some.ensures.0),
)
