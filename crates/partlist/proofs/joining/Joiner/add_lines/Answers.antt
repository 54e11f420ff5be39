use Rattle.std.proofs.Common.{[], ◌∙◌, refl, arith}
use Rattle.std.proofs.KnownBytes.{Consumes-nil}
use Rattle.partlist.specs.inside.Reader.{ahead}
use Rattle.partlist.proofs.Reading.{Coming-failed, Coming-halts, Coming-joined, Coming-start, Coming-wrong, Gives-more}
use Rattle.partlist.proofs.joining.Joiner.add_lines.Goals as goal

pub lines-init : goal.lines-init
lines-init g c = record {
  progress = rw c.new-reader.ensures (Coming-start (g.F.Feed.remaining c.args.feed.now) c.args.self.now);
  gave = ([], Consumes-nil (g.F.Feed.remaining c.args.feed.now));
  count = refl;
  forth = omega arith;
}

pub lines-preserved : goal.lines-preserved
lines-preserved g c =
    let more = rw c.in-Ok-Some.field-0-is at c.in-Ok-Some.ensures.forth in
    let before = c.lines.invariant.forth in
    record {
      progress = Coming-joined (g.F.Feed.remaining c.args.feed.now) (g.F.Feed.remaining c.lines.feed)
          (g.F.Feed.remaining c.add_next.new.feed) c.args.self.now c.lines.self c.add_next.new.self
          (ahead c.lines.reader) (ahead c.add_next.new.reader) c.lines.invariant.progress c.in-Ok-Some.field-0-0
          (rw c.in-Ok-Some.field-0-is at c.in-Ok-Some.ensures.joined);
      gave = Gives-more _ _ _ _ c.lines.invariant.gave c.add_next.ensures.gave.1;
      count = c.in-Ok-Some.ensures.count ∙ c.lines.invariant.count;
      forth = omega (arith, more, before);
    }

pub returns-in-Ok-None-clause-gave : goal.returns-in-Ok-None-clause-gave
returns-in-Ok-None-clause-gave g c = Gives-more _ _ _ _ c.lines.invariant.gave c.add_next.ensures.gave.1

pub returns-in-Err-Read-clause-stopped : goal.returns-in-Err-Read-clause-stopped
returns-in-Err-Read-clause-stopped g c =
    Coming-failed (g.F.Feed.remaining c.args.feed.now) (g.F.Feed.remaining c.lines.feed)
    (g.F.Feed.remaining c.add_next.new.feed) c.args.self.now c.lines.self c.add_next.new.self
    (ahead c.lines.reader) (ahead c.add_next.new.reader) c.lines.invariant.progress c.in-Err-Read.ensures.refused
    (rw c.in-Err-Read.field-0-is at c.in-Err-Read.ensures.left)

pub returns-in-Err-Read-clause-gave : goal.returns-in-Err-Read-clause-gave
returns-in-Err-Read-clause-gave g c = Gives-more _ _ _ _ c.lines.invariant.gave c.add_next.ensures.gave.1

pub returns-in-Err-Line-clause-joined : goal.returns-in-Err-Line-clause-joined
returns-in-Err-Line-clause-joined g c =
    rw c.in-Err-Line.field-0-is (Coming-wrong (g.F.Feed.remaining c.args.feed.now) (g.F.Feed.remaining c.lines.feed)
    (g.F.Feed.remaining c.add_next.new.feed) c.args.self.now c.lines.self c.add_next.new.self
    (ahead c.lines.reader) (ahead c.add_next.new.reader) c.lines.invariant.progress c.in-Err-Line.number
    c.in-Err-Line.fault (rw c.in-Err-Line.field-0-is at c.in-Err-Line.ensures.joined))

pub returns-in-Err-Line-clause-stopped : goal.returns-in-Err-Line-clause-stopped
returns-in-Err-Line-clause-stopped g c =
    rw c.in-Err-Line.field-0-is (Coming-halts (g.F.Feed.remaining c.args.feed.now) (g.F.Feed.remaining c.lines.feed)
    (g.F.Feed.remaining c.add_next.new.feed) c.args.self.now c.lines.self c.add_next.new.self
    (ahead c.lines.reader) (ahead c.add_next.new.reader) c.lines.invariant.progress c.in-Err-Line.number
    c.in-Err-Line.fault c.in-Err-Line.ensures.refused (rw c.in-Err-Line.field-0-is at c.in-Err-Line.ensures.place))

pub returns-in-Err-Line-clause-gave : goal.returns-in-Err-Line-clause-gave
returns-in-Err-Line-clause-gave g c = Gives-more _ _ _ _ c.lines.invariant.gave c.add_next.ensures.gave.1
