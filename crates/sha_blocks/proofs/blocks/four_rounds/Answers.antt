use Rattle.std.proofs.Common.{◌+◌, arith, refl}
use Rattle.sha_blocks.proofs.Rounds.{round_at}
use Rattle.sha_blocks.proofs.blocks.four_rounds.Goals as goal

pub returns : goal.returns
returns c h b before keyed =
    let t = c.args.t in
    let round = round_at h b in
    let v1 = round t (t + 1) _ _ _ refl before (keyed t (omega arith)) c.round-x.ensures in
    let v2 = round (t + 1) (t + 2) _ _ _ (omega arith) v1 (keyed (t + 1) (omega arith)) c.round-x-2.ensures in
    let v3 = round (t + 2) (t + 3) _ _ _ (omega arith) v2 (keyed (t + 2) (omega arith)) c.round-x-3.ensures in
    round (t + 3) (t + 4) _ _ _ (omega arith) v3 (keyed (t + 3) (omega arith)) c.round.ensures
