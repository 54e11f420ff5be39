use Rattle.sumlist.proofs.Common.{◌≡◌, ◌-◌, ◌^◌, ◌+◌, ◌<◌, ◌++◌, List, ℕ, false, length, Consumes}
use Rattle.sumlist.specs.Lines.{IsKept}
use Rattle.sumlist.specs.inside.Cut.{HasNo}
use Rattle.sumlist.proofs.line_reader.LineReader.next.Given as goal

abbrev pub invariant-lines : goal.invariant-lines
invariant-lines g l = record {
  read : List ℕ;
  consumed : Consumes (g.F.Feed.remaining l.initial.feed) (g.F.Feed.remaining l.feed) read;
  front : List ℕ;
  kept : IsKept l.self.kept front;
  free : HasNo l.end front;
  whole : l.fn.self.ahead ++ read ≡ front ++ l.self.ahead;
  counts : record {
    is_open : l.self.is_whole ≡ false;
    before : l.self.is_at_end ≡ false;
    total : l.self.total ≡ l.fn.self.total + length read;
    range : l.self.total < 2 ^ 64;
    count : g.F.Feed.failure_count l.feed ≡ g.F.Feed.failure_count l.initial.feed;
  };
}

abbrev pub decreases-lines : goal.decreases-lines
decreases-lines g l = 2 ^ 64 - l.self.total
