use Rattle.std.proofs.Common.{◌≡◌, [], ◌∙◌, ap, arith, refl, slice_index_or, sym}
use Rattle.std.specs.Simd.Lanes.{fold_l}
use Rattle.std.proofs.lemmas.List.{take_all}
use Rattle.sha2.specs.Sha256.{compress}
use Rattle.sha_blocks.proofs.Folds.{fold_more}
use Rattle.sha_blocks.proofs.Rounds.{IsAhead_at}
use Rattle.sha_blocks.proofs.blocks.compress_run_making_next.Goals as goal

pub first-init : goal.first-init
first-init c = record {
  words = omega arith;
  next = omega arith;
  value = λ run keyed. refl;
  ahead = λ j lt. (λ k none. absurd (omega arith), λ k none. absurd (omega arith));
}

pub first-preserved : goal.first-preserved
first-preserved c =
    let i = c.first.i in
    let at = c.first.invariant in
    record {
      words = c.compress_block_making_next.ensures.words;
      next = c.compress_block_making_next.ensures.next;
      value = λ run keyed.
          let b = slice_index_or run i [] in
          c.compress_block_making_next.ensures.value b (keyed.1 i (omega arith)) ∙ ap (λ h. compress h b) (at.value run keyed)
          ∙ sym (fold_more compress c.args.h.now run i [] (omega (arith, keyed.0)));
      ahead = λ j lt. c.compress_block_making_next.ensures.ahead j lt (at.ahead j lt);
    }

pub others-init : goal.others-init
others-init c =
    let two : c.first.i ≡ 2 = omega arith in
    rw two at c.first.invariant

pub others-preserved : goal.others-preserved
others-preserved c =
    let i = c.others.i in
    let at = c.others.invariant in
    record {
      words = c.compress_block_making_next-in-others.ensures.words;
      next = c.compress_block_making_next-in-others.ensures.next;
      value = λ run keyed.
          let b = slice_index_or run i [] in
          c.compress_block_making_next-in-others.ensures.value b (keyed.1 i (omega arith))
          ∙ ap (λ h. compress h b) (at.value run keyed)
          ∙ sym (fold_more compress c.args.h.now run i [] (omega (arith, keyed.0)));
      ahead = λ j lt. c.compress_block_making_next-in-others.ensures.ahead j lt (at.ahead j lt);
    }

pub returns-clause-value : goal.returns-clause-value
returns-clause-value c = λ run keyed.
    c.others.invariant.value run keyed
    ∙ ap (fold_l compress c.args.h.now) (take_all c.others.i run (omega (arith, keyed.0)))

pub returns-clause-next : goal.returns-clause-next
returns-clause-next c = (
  omega arith,
  λ j lt.
      let b = slice_index_or c.args.other.now j [] in
      (IsAhead_at b _ 64 j _ _ (omega arith) (c.others.invariant.ahead j lt)).1,
)
