use Rattle.std.proofs.Common.{◌^◌}
use Rattle.words.specs.inside.Lanes.{lane8}
use Rattle.sha_blocks.proofs.Sums.{round_keyed}
use Rattle.pieces.proofs.sha_lanes.words64.round.Goals as goal

pub returns : goal.returns
returns c i h k w e =
    rw (
      c.one_round-add-5.ensures i h,
      c.one_round-add-4.ensures i h,
      c.one_round-add-7.ensures i h,
      c.one_round-add-6.ensures i h,
      c.one_round-add-2.ensures i h,
      c.one_round-add.ensures i h,
      c.one_round-add-3.ensures i h,
      c.one_round-choice.ensures i h,
      c.one_round-big_sigma1.ensures i h,
      c.one_round-big_sigma0.ensures i h,
      c.one_round-majority.ensures i h,
    )
    (round_keyed (2 ^ 64) (lane8 i c.args.v) k w _ _ _ _ _ e)
