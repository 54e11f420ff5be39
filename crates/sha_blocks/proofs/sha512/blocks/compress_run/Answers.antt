use Rattle.std.proofs.Common.{[], ◌∙◌, ap, arith, slice_index_or, sym}
use Rattle.std.specs.Simd.Lanes.{fold_l}
use Rattle.std.proofs.lemmas.List.{take_all}
use Rattle.sha2.specs.Sha512.{compress}
use Rattle.sha_blocks.proofs.Folds.{fold_more}
use Rattle.sha_blocks.proofs.sha512.blocks.compress_run.Goals as goal

pub blocks-2-preserved : goal.blocks-2-preserved
blocks-2-preserved c = λ run keyed.
    let i = c.blocks-2.i in
    let b = slice_index_or run i [] in
    c.compress_block_of_run.ensures b (keyed.1 i (omega arith)) ∙ ap (λ h. compress h b) (c.blocks-2.invariant run keyed)
    ∙ sym (fold_more compress c.args.h.now run i [] (omega (arith, keyed.0)))

pub returns : goal.returns
returns c = λ run keyed.
    c.blocks-2.invariant run keyed
    ∙ ap (fold_l compress c.args.h.now) (take_all c.blocks-2.i run (omega (arith, keyed.0)))
