use Rattle.std.proofs.Common.{[], ap, arith, get_or, sym, ◌∙◌}
use Rattle.sha2.specs.Sha512.{compress}
use Rattle.sha_blocks.proofs.Folds.{fold_more}
use Rattle.sha_blocks.proofs.sha512.blocks.compress_each.Goals as goal

pub blocks-2-preserved : goal.blocks-2-preserved
blocks-2-preserved c =
    let n = c.blocks-2.block-index in
    c.compress_block.ensures ∙ ap (λ h. compress h (get_or c.args.blocks.now n [])) c.blocks-2.invariant
    ∙ sym (fold_more compress c.args.h.now c.args.blocks.now n [] (omega arith))
