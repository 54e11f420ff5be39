use Rattle.std.proofs.Common.{◌+◌}
use Rattle.partlist.specs.declared.fault.PartFault.TheVariants.{NotAPart}
use Rattle.partlist.specs.inside.Joiner.{joined_count}
use Rattle.partlist.specs.inside.Reader.{ahead}
use Rattle.partlist.proofs.Ahead.{joins_long, joins_part, joins_wrong, left_long}
use Rattle.partlist.proofs.joining.Joiner.add_next.Goals as goal

pub returns-in-Long-clause-joined : goal.returns-in-Long-clause-joined
returns-in-Long-clause-joined g c =
    joins_long (g.F.Feed.remaining c.args.feed.now) (g.F.Feed.remaining c.read_line.new.feed) c.args.self.now
    c.args.self.now (ahead c.args.reader.now) (ahead c.read_line.new.self) c.read_line.new.self.held.items _
    c.fault_of_next.ensures (rw c.in-Long.is at c.in_ok-read_line.ensures.found)

pub returns-in-Ok-clause-joined : goal.returns-in-Ok-clause-joined
returns-in-Ok-clause-joined g c =
    joins_part (g.F.Feed.remaining c.args.feed.now) (g.F.Feed.remaining c.read_line.new.feed) c.args.self.now
    c.add_told.new.self (ahead c.args.reader.now) (ahead c.read_line.new.self) c.read_line.new.self.held.items
    c.in-Ok.part (rw c.in-Line.is at c.in_ok-read_line.ensures.found) (rw c.line.ensures at c.in-Ok.ensures.added)

pub returns-in-Err-clause-joined : goal.returns-in-Err-clause-joined
returns-in-Err-clause-joined g c =
    joins_wrong (g.F.Feed.remaining c.args.feed.now) (g.F.Feed.remaining c.read_line.new.feed) c.args.self.now
    c.add_told.new.self (ahead c.args.reader.now) (ahead c.read_line.new.self) c.read_line.new.self.held.items _
    c.in-Err.fault c.fault_of_next-in-Err.ensures c.in-Err.ensures.refused
    (rw c.in-Line.is at c.in_ok-read_line.ensures.found) (rw c.line.ensures at c.in-Err.ensures.added)

pub returns-in-Long-clause-left : goal.returns-in-Long-clause-left
returns-in-Long-clause-left g c =
    rw c.fault_of_next.ensures (left_long (g.F.Feed.remaining c.args.feed.now) (g.F.Feed.remaining c.read_line.new.feed)
    c.args.self.now c.args.self.now (ahead c.args.reader.now) (ahead c.read_line.new.self)
    c.read_line.new.self.held.items (joined_count c.args.self.now + 1) NotAPart
    (rw c.in-Long.is at c.in_ok-read_line.ensures.found))
