use Rattle.std.proofs.Common.{◌≡◌, ℕ, ◌-◌, ◌≤◌, ◌^◌}
use Rattle.source.specs.Pumped.{Gives}
use Rattle.partlist.specs.inside.Joiner.{joined_count}
use Rattle.partlist.specs.inside.Reader.{ahead}
use Rattle.partlist.proofs.Reading.{Coming}
use Rattle.partlist.proofs.joining.Joiner.add_lines.Given as goal

abbrev pub invariant-lines : goal.invariant-lines
invariant-lines g l = record {
  progress : Coming (g.F.Feed.remaining l.initial.feed) (g.F.Feed.remaining l.feed) l.initial.self l.self
      (ahead l.reader);
  gave : Gives (g.F.Feed.remaining l.initial.feed) (g.F.Feed.remaining l.feed);
  count : g.F.Feed.failure_count l.feed ≡ g.F.Feed.failure_count l.initial.feed;
  forth : joined_count l.initial.self ≤ joined_count l.self;
}

abbrev pub decreases-lines : goal.decreases-lines
decreases-lines g l = 2 ^ 64 - joined_count l.self
