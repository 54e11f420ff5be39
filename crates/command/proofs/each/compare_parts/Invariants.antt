use Rattle.std.proofs.Common.{◌≡◌, ◌-◌, ◌^◌, ℕ, List, Some, length}
use Rattle.partlist.specs.inside.Joiner.{joined_count}
use Rattle.partlist.specs.inside.Reader.{ahead}
use Rattle.command.proofs.VerifiedParts.{SoFar}
use Rattle.command.proofs.each.compare_parts.Given as goal

abbrev pub invariant-parts : goal.invariant-parts
invariant-parts g l = record {
  so : (text m : List ℕ) → g.L.Feed.remaining l.initial.list ≡ Some text
      → g.P.Places.gives l.initial.places 0 l.fn.file.name.now (Some m)
      → SoFar l.fn.file.share text m (λ i. g.P.Places.gives l.places i l.fn.file.name.now (Some m)) l.joiner
      (ahead l.reader) (g.L.Feed.remaining l.list) l.left l.status (g.W.Sink.shown l.initial.out)
      (g.W.Sink.shown l.out) (g.L.Feed.failure_count l.initial.list) (g.L.Feed.failure_count l.list)
      (g.P.Places.opens l.initial.places) (g.P.Places.opens l.places) (g.P.Places.failures l.initial.places)
      (g.P.Places.failures l.places);
  same : g.P.Places.lender l.places ≡ g.P.Places.lender l.initial.places;
  size : length l.run ≡ length l.initial.run;
}

abbrev pub decreases-parts : goal.decreases-parts
decreases-parts g l = 2 ^ 54 - joined_count l.joiner
