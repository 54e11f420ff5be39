use Rattle.std.proofs.Common.{◌∙◌, ap, arith, refl}
use Rattle.sha2.specs.Sha512.{add_state, compress, rounds, schedule}
use Rattle.sha_blocks.proofs.Rounds512.{IsAhead_at}
use Rattle.sha_blocks.proofs.sha512.blocks.compress_block_making_next.Goals as goal

pub turns-init : goal.turns-init
unfolding rounds
turns-init c = record {
  words = omega arith;
  next = omega arith;
  value = λ b keyed. refl;
  ahead = λ j lt b before. IsAhead_at b _ _ j _ _ (omega arith) before;
}

pub turns-preserved : goal.turns-preserved
turns-preserved c =
    let h = c.args.h.now in
    let at = c.turns.invariant in
    record {
      words = c.step-in-turns.ensures.words;
      next = c.step-in-turns.ensures.out;
      value = λ b keyed.
          let v1 = c.four_rounds.ensures h b (at.value b keyed) keyed in
          c.four_rounds-in-turns.ensures h b v1 keyed ∙ ap (rounds h (schedule b 64)) (omega arith);
      ahead = λ j lt b before.
          let s1 = c.step.ensures.ahead j lt b (IsAhead_at b _ _ j _ _ (omega arith) (at.ahead j lt b before)) in
          let s2 = c.step-in-turns.ensures.ahead j lt b (IsAhead_at b _ _ j _ _ (omega arith) s1) in
          IsAhead_at b _ _ j _ _ (omega arith) s2;
    }

pub returns-clause-value : goal.returns-clause-value
unfolding compress
returns-clause-value c = λ b keyed.
    let h = c.args.h.now in
    let v0 = c.turns.invariant.value b keyed ∙ ap (rounds h (schedule b 64)) (omega arith) in
    let v1 = c.four_rounds-2.ensures h b v0 keyed in
    let v2 = c.four_rounds-3.ensures h b v1 keyed in
    let v3 = c.four_rounds-4.ensures h b v2 keyed in
    c.sums.ensures ∙ ap (add_state h) (c.four_rounds-5.ensures h b v3 keyed)

pub returns-clause-ahead : goal.returns-clause-ahead
returns-clause-ahead c = λ j lt b before.
    IsAhead_at b _ _ j _ _ (omega arith) (c.turns.invariant.ahead j lt b before)
