use Rattle.std.proofs.Common.{◌≡◌, ◌+◌, ◌*◌, arith, refl}
use Rattle.sha2.specs.Sha512.{rounds, schedule}
use Rattle.words.specs.inside.Lanes.{lane8}
use Rattle.pieces.proofs.Lanes.{at_count}
use Rattle.pieces.proofs.sha_lanes.words64.all_steps.Goals as goal

pub turns-init : goal.turns-init
unfolding rounds
turns-init c = record { words = omega arith; rounds = λ i lt b w. (refl, w) }

pub turns-preserved : goal.turns-preserved
turns-preserved c =
    let more : 8 * (c.turns.turn + 1) ≡ 8 * c.turns.turn + 8 = omega arith in
    record {
      words = c.eight_steps_ahead.ensures.words;
      rounds = λ i lt b w. rw more (c.eight_steps_ahead.ensures.rounds i lt (lane8 i c.args.v.now) b
          (c.turns.invariant.rounds i lt b w));
    }

pub returns-clause-value : goal.returns-clause-value
returns-clause-value c i lt b w =
    let h = lane8 i c.args.v.now in
    let at = c.turns.invariant.rounds i lt b w in
    let v = c.eight_steps.ensures i lt h b (at_count (rounds h (schedule b 64)) _ 64 _ (omega arith) at.0)
    (λ k below. at.1 k (omega arith)) in
    c.eight_steps-2.ensures i lt h b v (λ k below. at.1 k (omega arith))
