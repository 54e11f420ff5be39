use Rattle.std.proofs.Common.{[], rules}
use Rattle.partlist.specs.declared.fault.PartFault.{PartFault}
use Rattle.partlist.specs.inside.Reader.{ahead}
use Rattle.partlist.proofs.Ahead.{on_err, reads_failed, reads_line, reads_long, reads_more, reads_on}
use Rattle.partlist.proofs.Reading.{Gives-more}
use Rattle.partlist.proofs.reader.PartReader.read_line.Goals as goal

pub returns-in_err-has_more-clause-gave : goal.returns-in_err-has_more-clause-gave
returns-in_err-has_more-clause-gave g c =
    Gives-more _ _ _ _ c.pieces.invariant.gave c.has_more.ensures.gave.1

pub returns-in_err-has_more-clause-failed : goal.returns-in_err-has_more-clause-failed
returns-in_err-has_more-clause-failed g c =
    let refused = c.in_err-has_more.ensures.refused in
    on_err c.from_residual.result (
      refused.1,
      reads_failed (g.F.Feed.remaining c.args.feed.now) (g.F.Feed.remaining c.pieces.feed)
          (g.F.Feed.remaining c.has_more.new.feed) (ahead c.args.self.now) (ahead c.pieces.self)
          c.pieces.self.held.items c.pieces.invariant.progress c.pieces.invariant.free refused.0 refused.2,
    )

pub returns-in-Ok-true-clause-found : goal.returns-in-Ok-true-clause-found
returns-in-Ok-true-clause-found g c =
    let so = reads_more (g.F.Feed.remaining c.args.feed.now) (g.F.Feed.remaining c.pieces.feed)
    (g.F.Feed.remaining c.has_more.new.feed) (ahead c.args.self.now) (ahead c.pieces.self) (ahead c.has_more.new.self)
    c.pieces.self.held.items [] _ c.pieces.invariant.progress c.in_ok-has_more.ensures.ahead in
    reads_line (g.F.Feed.remaining c.args.feed.now) (g.F.Feed.remaining c.has_more.new.feed)
    (g.F.Feed.remaining c.has_more.new.feed) (ahead c.args.self.now) (ahead c.has_more.new.self)
    (ahead c.take.new.self) c.has_more.new.self.held.items c.take.new.self.held.items PartFault
    (rw c.in-Ok-true.field-0-test at c.in-Ok-true.ensures.line)
    (rw c.has_more.ensures.held c.pieces.invariant.free)
    (rw c.has_more.ensures.held so)

pub returns-in-Ok-true-clause-gave : goal.returns-in-Ok-true-clause-gave
returns-in-Ok-true-clause-gave g c = Gives-more _ _ _ _ c.pieces.invariant.gave c.has_more.ensures.gave.1

pub pieces-preserved : goal.pieces-preserved
pieces-preserved g c =
    let so = reads_more (g.F.Feed.remaining c.args.feed.now) (g.F.Feed.remaining c.pieces.feed)
    (g.F.Feed.remaining c.has_more.new.feed) (ahead c.args.self.now) (ahead c.pieces.self) (ahead c.has_more.new.self)
    c.pieces.self.held.items [] _ c.pieces.invariant.progress c.in_ok-has_more.ensures.ahead in
    let on = reads_on (g.F.Feed.remaining c.args.feed.now) (g.F.Feed.remaining c.has_more.new.feed)
    (g.F.Feed.remaining c.has_more.new.feed) (ahead c.args.self.now) (ahead c.has_more.new.self)
    (ahead c.take.new.self) c.has_more.new.self.held.items c.take.new.self.held.items PartFault
    (rw c.in-Ok-false.field-0-test at c.in-Ok-false.ensures.line)
    (rw c.has_more.ensures.held c.pieces.invariant.free)
    (rw c.has_more.ensures.held so) in
    record {
      progress = on.0;
      free = on.1;
      gave = Gives-more _ _ _ _ c.pieces.invariant.gave c.has_more.ensures.gave.1;
      count = search rules;
      bound = search rules;
    }

pub returns-in-Err-clause-found : goal.returns-in-Err-clause-found
returns-in-Err-clause-found g c =
    let so = reads_more (g.F.Feed.remaining c.args.feed.now) (g.F.Feed.remaining c.pieces.feed)
    (g.F.Feed.remaining c.has_more.new.feed) (ahead c.args.self.now) (ahead c.pieces.self) (ahead c.has_more.new.self)
    c.pieces.self.held.items [] _ c.pieces.invariant.progress c.in_ok-has_more.ensures.ahead in
    rw c.in-Err.ensures.refused (
    reads_long (g.F.Feed.remaining c.args.feed.now) (g.F.Feed.remaining c.has_more.new.feed)
    (g.F.Feed.remaining c.has_more.new.feed) (ahead c.args.self.now) (ahead c.has_more.new.self)
    (ahead c.take.new.self) c.has_more.new.self.held.items c.take.new.self.held.items PartFault c.in-Err.field-0
    c.in-Err.ensures.line (rw c.has_more.ensures.held c.pieces.invariant.free)
    (rw c.has_more.ensures.held so) c.has_more.new.self.held.items)

pub returns-in-Err-clause-gave : goal.returns-in-Err-clause-gave
returns-in-Err-clause-gave g c = Gives-more _ _ _ _ c.pieces.invariant.gave c.has_more.ensures.gave.1
