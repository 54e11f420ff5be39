use Rattle.words.specs.inside.Halves.{half16, half_message}
use Rattle.words.proofs.SevenRounds.{seven_rounds}
use Rattle.words.proofs.lanes.two.rounds_halves.Goals as goal

pub returns : goal.returns
returns u c i h =
    seven_rounds (half16 i c.args.rows) (half_message i c.args.m) (c.permute_halves-m1.ensures i h)
    (c.permute_halves-m2.ensures i h) (c.permute_halves-m3.ensures i h) (c.permute_halves-m4.ensures i h)
    (c.permute_halves-m5.ensures i h) (c.permute_halves-m6.ensures i h) (c.round_halves-v.ensures i h)
    (c.round_halves-v-2.ensures i h) (c.round_halves-v-3.ensures i h) (c.round_halves-v-4.ensures i h)
    (c.round_halves-v-5.ensures i h) (c.round_halves-v-6.ensures i h) (c.round_halves.ensures i h)
