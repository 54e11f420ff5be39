use Rattle.source.proofs.Writing.{Writing-more}
use Rattle.source.proofs.sink.write_all.Goals as goal

pub loop-rest-preserved : goal.loop-rest-preserved
loop-rest-preserved g c = record {
  progress = rw c.split_at.ensures.back
      (Writing-more _ _ _ _ _ c.in_ok-count.count c.loop-rest.invariant.progress
      (c.in_ok-count.ensures.counted, c.in_ok-count.ensures.appended));
}
