use Rattle.std.proofs.Common.{[], ◌∙◌, ap, arith, refl, slice_index_or, sym}
use Rattle.std.specs.Simd.Lanes.{fold_l}
use Rattle.std.proofs.lemmas.List.{take_all}
use Rattle.sha2.specs.Sha512.{compress}
use Rattle.sha_blocks.proofs.Folds.{fold_more}
use Rattle.sha_blocks.proofs.Rounds512.{IsAhead_at}
use Rattle.sha_blocks.proofs.sha512.blocks.compress_run_making_next.Goals as goal

pub blocks-2-init : goal.blocks-2-init
blocks-2-init c = record {
  words = c.load.ensures.words;
  next = c.load.ensures.out;
  value = λ run keyed. refl;
  ahead = c.load.ensures.ahead;
}

pub blocks-2-preserved : goal.blocks-2-preserved
blocks-2-preserved c =
    let i = c.blocks-2.i in
    let at = c.blocks-2.invariant in
    record {
      words = c.compress_block_making_next.ensures.words;
      next = c.compress_block_making_next.ensures.next;
      value = λ run keyed.
          let b = slice_index_or run i [] in
          c.compress_block_making_next.ensures.value b (keyed.1 i (omega arith)) ∙ ap (λ h. compress h b) (at.value run keyed)
          ∙ sym (fold_more compress c.args.h.now run i [] (omega (arith, keyed.0)));
      ahead = λ j lt.
          let b = slice_index_or c.args.other.now j [] in
          IsAhead_at b _ _ j _ _ (omega arith) (c.compress_block_making_next.ensures.ahead j lt b (at.ahead j lt));
    }

pub returns-clause-value : goal.returns-clause-value
returns-clause-value c = λ run keyed.
    c.blocks-2.invariant.value run keyed
    ∙ ap (fold_l compress c.args.h.now) (take_all c.blocks-2.i run (omega (arith, keyed.0)))

pub returns-clause-next : goal.returns-clause-next
returns-clause-next c = (
  omega arith,
  λ j lt.
      let b = slice_index_or c.args.other.now j [] in
      (IsAhead_at b _ 80 j _ _ (omega arith) (c.blocks-2.invariant.ahead j lt)).1,
)
