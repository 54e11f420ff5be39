use Rattle.std.proofs.Common.{refl}
use Rattle.words.specs.Blake2.{rounds}
use Rattle.words.proofs.lanes.mixing.ten_rounds.Goals as goal

pub returns : goal.returns
unfolding rounds
returns g c i h =
    rw (
      c.round_in_turn.ensures i h,
      c.round_in_turn-v-9.ensures i h,
      c.round_in_turn-v-8.ensures i h,
      c.round_in_turn-v-7.ensures i h,
      c.round_in_turn-v-6.ensures i h,
      c.round_in_turn-v-5.ensures i h,
      c.round_in_turn-v-4.ensures i h,
      c.round_in_turn-v-3.ensures i h,
      c.round_in_turn-v-2.ensures i h,
      c.round_in_turn-v.ensures i h,
    ) refl
