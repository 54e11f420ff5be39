use Rattle.std.proofs.Common.{[], ap, arith, refl, slice_index_or, ◌∙◌}
use Rattle.sha2.specs.Sha256.{add_state, compress, rounds, schedule}
use Rattle.sha_blocks.proofs.Rounds.{IsAhead_at}
use Rattle.sha_blocks.proofs.blocks.compress_block_making_next.Goals as goal

pub turns-init : goal.turns-init
unfolding rounds
turns-init c = record {
  words = omega arith;
  next = omega arith;
  value = λ b keyed. refl;
  ahead = λ j lt before. IsAhead_at (slice_index_or c.args.other.now j []) _ _ j _ _ (omega arith) before;
}

pub turns-preserved : goal.turns-preserved
turns-preserved c =
    let h = c.args.h.now in
    let at = c.turns.invariant in
    record {
      words = c.put_words.ensures.words;
      next = c.put_words.ensures.out;
      value = λ b keyed.
          let v1 = c.four_rounds.ensures h b (at.value b keyed) keyed in
          c.four_rounds-in-turns.ensures h b v1 keyed ∙ ap (rounds h (schedule b 48)) (omega arith);
      ahead = λ j lt before.
          IsAhead_at (slice_index_or c.args.other.now j []) _ _ j _ _ (omega arith)
          (c.put_words.ensures.ahead j lt (at.ahead j lt before));
    }

pub returns-clause-value : goal.returns-clause-value
unfolding compress
returns-clause-value c = λ b keyed.
    let h = c.args.h.now in
    c.sums.ensures
    ∙ ap (add_state h) (c.turns.invariant.value b keyed ∙ ap (rounds h (schedule b 48)) (omega arith))

pub returns-clause-ahead : goal.returns-clause-ahead
returns-clause-ahead c = λ j lt before.
    IsAhead_at (slice_index_or c.args.other.now j []) _ _ j _ _ (omega arith) (c.turns.invariant.ahead j lt before)
