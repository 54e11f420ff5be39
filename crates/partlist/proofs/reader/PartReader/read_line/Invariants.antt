use Rattle.std.proofs.Common.{◌≡◌, ◌-◌, ◌≤◌}
use Rattle.arrayvec.specs.ArrayVec.{array_vec_len}
use Rattle.source.specs.Pumped.{Gives}
use Rattle.sumlist.specs.inside.Cut.{HasNo}
use Rattle.partlist.specs.inside.Reader.{ahead}
use Rattle.partlist.proofs.Ahead.{Reads}
use Rattle.partlist.proofs.reader.PartReader.read_line.Given as goal

abbrev pub invariant-pieces : goal.invariant-pieces
invariant-pieces g l = record {
  progress : Reads (g.F.Feed.remaining l.initial.feed) (ahead l.initial.self) (g.F.Feed.remaining l.feed)
      (ahead l.self) l.self.held.items;
  free : HasNo 10 l.self.held.items;
  gave : Gives (g.F.Feed.remaining l.initial.feed) (g.F.Feed.remaining l.feed);
  count : g.F.Feed.failure_count l.feed ≡ g.F.Feed.failure_count l.initial.feed;
  bound : array_vec_len l.self.held ≤ 256;
}

abbrev pub decreases-pieces : goal.decreases-pieces
decreases-pieces g l = 256 - array_vec_len l.self.held
