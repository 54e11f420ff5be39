use Rattle.sumlist.proofs.Common.{◌≡◌, Bool, List, Option, drop, escaped, ℕ}
use Rattle.sumlist.proofs.TakenTexts.{Next}
use Rattle.sumlist.specs.inside.Telling.{left}
use Rattle.sumlist.proofs.report_reader.ReportReader.take_name.Given as goal

abbrev pub invariant-loop-byte : goal.invariant-loop-byte
invariant-loop-byte g l = record {
  goes : (new : Option (List ℕ)) (r : Bool)
      → Next (left g.F.Feed.remaining l.self) (escaped (drop l.byte-index l.byte-items)) new r
      → Next (left g.F.Feed.remaining l.initial.self) (escaped l.name) new r;
  counted : g.F.Feed.failure_count l.self.feed.now ≡ g.F.Feed.failure_count l.initial.self.feed.now;
  same : l.self.feed.ghost_name ≡ l.initial.self.feed.ghost_name;
}
