use Rattle.std.proofs.Common.{arith, ap, refl, sym, ◌∙◌}
use Rattle.std.specs.Simd.Lanes.{fold_l}
use Rattle.std.proofs.lemmas.List.{take_all}
use Rattle.sha2.specs.Sha256.{compress}
use Rattle.sha_blocks.proofs.Folds.{fold_by_runs}
use Rattle.sha_blocks.proofs.blocks.compress_by_runs.Goals as goal

pub returns : goal.returns
returns c =
    let runs = c.as_chunks.result.0.now in
    let h = c.args.h.now in
    fold_by_runs compress h 8 c.args.blocks.now _ _ _ _ _ (omega arith)
    c.as_chunks.ensures.front c.as_chunks.ensures.back refl
    (c.compress_runs.ensures ∙ ap (fold_l (λ v run. fold_l compress v run) h) (sym (take_all _ runs (omega arith))))
    c.compress_each.ensures
