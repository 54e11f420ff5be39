use Rattle.std.proofs.Common.{[], slice_index_or}
use Rattle.words.specs.inside.Halves.{half16, half_message}
use Rattle.words.proofs.SevenRounds.{seven_rounds}
use Rattle.words.proofs.lanes.two.rounds_pairs.Goals as goal

pub returns : goal.returns
returns u c k g i h =
    seven_rounds (half16 i (slice_index_or c.args.rows k [])) (half_message i (slice_index_or c.args.m k []))
    (c.permute_pairs-m1.ensures k g i h) (c.permute_pairs-m2.ensures k g i h) (c.permute_pairs-m3.ensures k g i h)
    (c.permute_pairs-m4.ensures k g i h) (c.permute_pairs-m5.ensures k g i h) (c.permute_pairs-m6.ensures k g i h)
    (c.round_pairs-v.ensures k g i h) (c.round_pairs-v-2.ensures k g i h) (c.round_pairs-v-3.ensures k g i h)
    (c.round_pairs-v-4.ensures k g i h) (c.round_pairs-v-5.ensures k g i h) (c.round_pairs-v-6.ensures k g i h)
    (c.round_pairs.ensures k g i h)
