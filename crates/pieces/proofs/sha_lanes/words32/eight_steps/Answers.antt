use Rattle.std.proofs.Common.{◌+◌, arith}
use Rattle.sha2.specs.Sha256.{rounds, schedule}
use Rattle.pieces.proofs.Lanes.{at_count}
use Rattle.pieces.proofs.sha_lanes.words32.eight_steps.Goals as goal

pub returns : goal.returns
returns c i lt h b before w =
    let t = c.args.t in
    let on = at_count (rounds h (schedule b 48)) in
    let v1 = c.step-v.ensures i lt h b before (w t (omega arith)) in
    let v2 = c.step-v-2.ensures i lt h b v1 (w (t + 1) (omega arith)) in
    let v3 = c.step-v-3.ensures i lt h b (on _ (t + 2) _ (omega arith) v2) (w (t + 2) (omega arith)) in
    let v4 = c.step-v-4.ensures i lt h b (on _ (t + 3) _ (omega arith) v3) (w (t + 3) (omega arith)) in
    let v5 = c.step-v-5.ensures i lt h b (on _ (t + 4) _ (omega arith) v4) (w (t + 4) (omega arith)) in
    let v6 = c.step-v-6.ensures i lt h b (on _ (t + 5) _ (omega arith) v5) (w (t + 5) (omega arith)) in
    let v7 = c.step-v-7.ensures i lt h b (on _ (t + 6) _ (omega arith) v6) (w (t + 6) (omega arith)) in
    on _ (t + 8) _ (omega arith)
    (c.step.ensures i lt h b (on _ (t + 7) _ (omega arith) v7) (w (t + 7) (omega arith)))
