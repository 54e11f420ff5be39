use Rattle.std.proofs.Common.{◌≡◌, ◌-◌, ◌≤◌, length, take}
use Rattle.std.specs.Io.KnownBytes.{Consumes}
use Rattle.source.specs.inside.Front.{Passes, front_failures, front_remaining}
use Rattle.source.proofs.parts.fill.Given as goal

abbrev pub invariant-reads : goal.invariant-reads
invariant-reads g l = record {
  given : Consumes (front_remaining g.F.Feed.remaining l.initial.feed) (front_remaining g.F.Feed.remaining l.feed)
      (take l.n l.run);
  within : l.n ≤ length l.run;
  length : length l.run ≡ length l.initial.run;
  passed : Passes g.F.Feed.remaining l.initial.feed l.feed;
  count : front_failures g.F.Feed.failure_count l.feed ≡ front_failures g.F.Feed.failure_count l.initial.feed;
}

abbrev pub decreases-reads : goal.decreases-reads
decreases-reads g l = length l.run - l.n
