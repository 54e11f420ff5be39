use Rattle.std.proofs.Common.{◌≡◌, ◌-◌, ℕ, List, Option, length}
use Rattle.command.proofs.EachPart.{EachSoFar}
use Rattle.command.proofs.each.write_parts.Given as goal

abbrev pub invariant-parts : goal.invariant-parts
invariant-parts g l = record {
  so : (content : Option (List ℕ)) → g.P.Places.gives l.initial.places 0 l.file.name.now content
      → EachSoFar l.file.share l.chunks content l.number (λ i. g.P.Places.gives l.places i l.file.name.now content)
      (g.W.Sink.shown l.initial.out) (g.W.Sink.shown l.out) (g.P.Places.opens l.initial.places)
      (g.P.Places.opens l.places) (g.P.Places.failures l.initial.places) (g.P.Places.failures l.places);
  same : g.P.Places.lender l.places ≡ g.P.Places.lender l.initial.places;
  size : length l.run ≡ length l.initial.run;
}

abbrev pub decreases-parts : goal.decreases-parts
decreases-parts g l = l.count - l.number
