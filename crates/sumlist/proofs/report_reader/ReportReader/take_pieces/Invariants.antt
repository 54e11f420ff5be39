use Rattle.sumlist.proofs.Common.{◌≡◌, Bool, List, Option, drop, ℕ}
use Rattle.source.specs.Pumped.{joined}
use Rattle.sumlist.proofs.TakenTexts.{Next}
use Rattle.sumlist.specs.inside.Telling.{left}
use Rattle.sumlist.proofs.report_reader.ReportReader.take_pieces.Given as goal

abbrev pub invariant-loop-piece : goal.invariant-loop-piece
invariant-loop-piece g l = record {
  goes : (new : Option (List ℕ)) (r : Bool)
      → Next (left g.F.Feed.remaining l.self) (joined (drop l.piece-index l.pieces)) new r
      → Next (left g.F.Feed.remaining l.initial.self) (joined l.pieces) new r;
  counted : g.F.Feed.failure_count l.self.feed.now ≡ g.F.Feed.failure_count l.initial.self.feed.now;
  same : l.self.feed.ghost_name ≡ l.initial.self.feed.ghost_name;
}
