use Rattle.std.proofs.Common.{◌≡◌, ℕ, List, ◌++◌, drop}
use Rattle.source.specs.Pumped.{joined}
use Rattle.source.proofs.Taking.{Takes}
use Rattle.source.proofs.digests.take_each.Given as goal

abbrev pub invariant-loop-piece : goal.invariant-loop-piece
invariant-loop-piece g l = record {
  front : List ℕ;
  whole : joined l.pieces ≡ front ++ joined (drop l.piece-index l.pieces);
  takes : Takes g.A.Absorb.holds g.A.Absorb.room_left l.initial.hasher l.hasher front;
  parameters : g.A.Absorb.parameters l.hasher ≡ g.A.Absorb.parameters l.initial.hasher;
}
