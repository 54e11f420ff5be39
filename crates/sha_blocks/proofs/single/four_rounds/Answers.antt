use Rattle.std.proofs.Common.{◌≡◌, ℕ, ◌+◌, ◌<◌, ◌∙◌, ap, arith, refl, slice_index}
use Rattle.sha2.specs.Sha256.{add32, round_constants}
use Rattle.sha_blocks.proofs.Rounds.{round_at}
use Rattle.sha_blocks.proofs.single.four_rounds.Goals as goal

pub returns : goal.returns
returns c h b before words =
    let t : ℕ = c.args.t in
    let zero : t + 0 ≡ t = omega arith in
    let round = round_at h b in
    let sum = c.add.ensures in
    let key = λ (i : ℕ) (lt : i < 4). ap (add32 (slice_index round_constants (t + i))) (words i lt) in
    let key0 = sum 0 (omega arith) ∙ rw zero at (key 0 (omega arith)) in
    let v1 = round t (t + 1) _ _ _ refl before key0 c.round-v.ensures in
    let v2 = round (t + 1) (t + 2) _ _ _ (omega arith) v1 (sum 1 (omega arith) ∙ key 1 (omega arith)) c.round-v-2.ensures in
    let v3 = round (t + 2) (t + 3) _ _ _ (omega arith) v2 (sum 2 (omega arith) ∙ key 2 (omega arith)) c.round-v-3.ensures in
    round (t + 3) (t + 4) _ _ _ (omega arith) v3 (sum 3 (omega arith) ∙ key 3 (omega arith)) c.round.ensures
