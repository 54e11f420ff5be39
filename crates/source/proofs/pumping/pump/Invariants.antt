use Rattle.std.proofs.Common.{◌≡◌, ℕ, List, length}
use Rattle.std.specs.Io.KnownBytes.{Consumes}
use Rattle.source.proofs.Taking.{Takes}
use Rattle.source.proofs.pumping.pump.Given as goal

abbrev pub invariant-pieces : goal.invariant-pieces
invariant-pieces g l = record {
  front : List ℕ;
  takes : Takes g.A.Absorb.holds g.A.Absorb.room_left l.initial.hasher l.hasher front;
  consumes : Consumes (g.F.Feed.remaining l.initial.feed) (g.F.Feed.remaining l.feed) front;
  count : g.F.Feed.failure_count l.feed ≡ g.F.Feed.failure_count l.initial.feed;
  parameters : g.A.Absorb.parameters l.hasher ≡ g.A.Absorb.parameters l.initial.hasher;
  size : length l.buf ≡ 65536;
}

abbrev pub decreases-pieces : goal.decreases-pieces
decreases-pieces g l = g.A.Absorb.room_left l.hasher
