use Rattle.std.proofs.Common.{refl}
use Rattle.words.specs.Blake3.{permuted_words, rounds3}
use Rattle.words.specs.Mix.{round}
use Rattle.words.proofs.lanes.mixing.seven_rounds.Goals as goal

pub returns : goal.returns
unfolding rounds3 permuted_words round
returns g c i h =
    rw (
      c.round_by_halves.ensures i h,
      c.round_by_halves-v-6.ensures i h,
      c.round_by_halves-v-5.ensures i h,
      c.round_by_halves-v-4.ensures i h,
      c.round_by_halves-v-3.ensures i h,
      c.round_by_halves-v-2.ensures i h,
      c.round_by_halves-v.ensures i h,
      c.requires,
    ) refl
