use Rattle.std.proofs.Common.{[], ap, arith, get_or, sym, ◌∙◌}
use Rattle.std.specs.Simd.Lanes.{fold_l}
use Rattle.sha2.specs.Sha256.{compress}
use Rattle.sha_blocks.proofs.Folds.{fold_more}
use Rattle.sha_blocks.proofs.blocks.compress_runs_one_by_one.Goals as goal

pub runs-preserved : goal.runs-preserved
runs-preserved c =
    let run = get_or c.args.runs.now c.runs.run-index [] in
    c.compress_run.ensures run c.put_schedules.ensures.keyed ∙ ap (λ h. fold_l compress h run) c.runs.invariant
    ∙ sym (fold_more (λ v run. fold_l compress v run) c.args.h.now c.args.runs.now c.runs.run-index [] (omega arith))
