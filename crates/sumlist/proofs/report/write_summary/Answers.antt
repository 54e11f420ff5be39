use Rattle.source.proofs.Writing.{Writes-exit, Writing-failed, Writing-step, flat_map-drop}
use Rattle.sumlist.proofs.report.write_summary.Goals as goal

pub returns-in_err-write_count : goal.returns-in_err-write_count
returns-in_err-write_count g c = Writes-exit _ _ _ _ c.from_residual.ensures.0 (Writing-failed _ _ _ _ _ _ _
    (flat_map-drop _ _ c.loop-count.count-index _ c.loop-count-test.true)
    c.loop-count.invariant.progress c.in_err-write_count.ensures)

pub loop-count-preserved : goal.loop-count-preserved
loop-count-preserved g c = record {
  progress = Writing-step _ _ _ _ _ _ _
      (flat_map-drop _ _ c.loop-count.count-index _ c.loop-count-test.true)
      c.loop-count.invariant.progress c.in_ok-write_count.ensures;
}
