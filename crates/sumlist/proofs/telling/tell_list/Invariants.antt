use Rattle.sumlist.proofs.Common.{◌≡◌, ◌+◌, ◌-◌, ◌^◌, ◌≤◌, [], Consumes, List, length, lines_of, true, ℕ}
use Rattle.std.specs.Io.KnownBytes.{IsAtEnd}
use Rattle.std.specs.Prelude.{option_map}
use Rattle.sumlist.proofs.ToldLines.{Telling}
use Rattle.sumlist.specs.inside.Stepped.{meaning_of}
use Rattle.sumlist.specs.inside.Telling.{left}
use Rattle.sumlist.proofs.telling.tell_list.Given as goal

abbrev pub invariant-loop-reader : goal.invariant-loop-reader
invariant-loop-reader g l = record {
  said : Telling (meaning_of g.M.MakesTag.limit g.M.MakesTag.makes l.fn.entries) (option_map (λ n. n.now) l.fn.name)
      (g.L.Feed.remaining l.initial.list) (left g.F.Feed.remaining l.initial.report) l.initial.lines l.lines
      l.reader.ahead (g.L.Feed.remaining l.list) (left g.F.Feed.remaining l.report) l.summary;
  read : List ℕ;
  consumed : Consumes (g.L.Feed.remaining l.initial.list) (g.L.Feed.remaining l.list) read;
  ended : l.reader.is_at_end ≡ true → (l.reader.ahead ≡ []) × IsAtEnd (g.L.Feed.remaining l.list);
  counts : record {
    total : l.reader.total ≡ length read;
    reads : g.L.Feed.failure_count l.list ≡ g.L.Feed.failure_count l.initial.list;
    report_reads : g.F.Feed.failure_count l.report.feed.now ≡ g.F.Feed.failure_count l.initial.report.feed.now;
    same : l.report.feed.ghost_name ≡ l.initial.report.feed.ghost_name;
    number : l.number ≡ lines_of l.summary;
    few : lines_of l.summary + length l.reader.ahead ≤ l.reader.total;
    foreign : l.summary.foreign ≤ l.summary.malformed;
  };
}

abbrev pub decreases-loop-reader : goal.decreases-loop-reader
decreases-loop-reader g l = 2 ^ 64 + length l.reader.ahead - l.reader.total
