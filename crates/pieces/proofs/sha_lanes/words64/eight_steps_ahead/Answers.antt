use Rattle.std.proofs.Common.{◌+◌, arith}
use Rattle.sha2.specs.Sha512.{rounds, schedule}
use Rattle.pieces.proofs.Lanes.{rounds_at}
use Rattle.pieces.proofs.sha_lanes.words64.eight_steps_ahead.Goals as goal

pub returns-clause-rounds : goal.returns-clause-rounds
returns-clause-rounds c i lt h b before =
    let t = c.args.t in
    let on = rounds_at (rounds h (schedule b 64)) (schedule b 64) i in
    let s1 = c.step_ahead-v.ensures.rounds i lt h b before in
    let s2 = c.step_ahead-v-2.ensures.rounds i lt h b s1 in
    let s3 = c.step_ahead-v-3.ensures.rounds i lt h b
    (on _ (t + 1 + 1) (t + 2) c.step_ahead-v-2.result (omega arith) s2) in
    let s4 = c.step_ahead-v-4.ensures.rounds i lt h b
    (on _ (t + 2 + 1) (t + 3) c.step_ahead-v-3.result (omega arith) s3) in
    let s5 = c.step_ahead-v-5.ensures.rounds i lt h b
    (on _ (t + 3 + 1) (t + 4) c.step_ahead-v-4.result (omega arith) s4) in
    let s6 = c.step_ahead-v-6.ensures.rounds i lt h b
    (on _ (t + 4 + 1) (t + 5) c.step_ahead-v-5.result (omega arith) s5) in
    let s7 = c.step_ahead-v-7.ensures.rounds i lt h b
    (on _ (t + 5 + 1) (t + 6) c.step_ahead-v-6.result (omega arith) s6) in
    on _ (t + 7 + 1) (t + 8) c.step_ahead.result (omega arith)
    (c.step_ahead.ensures.rounds i lt h b
    (on _ (t + 6 + 1) (t + 7) c.step_ahead-v-7.result (omega arith) s7))
