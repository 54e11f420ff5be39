use Rattle.std.proofs.Common.{ap, refl, slice_index, ◌∙◌}
use Rattle.sha2.specs.Sha256.{add32, round_constants}
use Rattle.sha_blocks.proofs.Rounds.{round_at}
use Rattle.pieces.proofs.sha_lanes.words32.step.Goals as goal

pub returns : goal.returns
returns c i lt h b before word =
    round_at h b c.args.t _ _ _ _ refl before
    (c.keyed.ensures i lt ∙ ap (add32 (slice_index round_constants c.args.t)) word) (c.round.ensures i lt)
