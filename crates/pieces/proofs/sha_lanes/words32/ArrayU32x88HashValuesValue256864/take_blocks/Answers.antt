use Rattle.std.proofs.Common.{ap}
use Rattle.sha2.specs.Sha256.{add_state, compress}
use Rattle.words.specs.inside.Lanes.{lane8}
use Rattle.pieces.proofs.sha_lanes.words32.ArrayU32x88HashValuesValue256864.take_blocks.Goals as goal

pub returns : goal.returns
unfolding compress
returns c i lt =
    rw (
      c.added-add.ensures i lt,
      c.added-add-2.ensures i lt,
      c.added-add-3.ensures i lt,
      c.added-add-4.ensures i lt,
      c.added-add-5.ensures i lt,
      c.added-add-6.ensures i lt,
      c.added-add-7.ensures i lt,
      c.added-add-8.ensures i lt,
    )
    (ap (add_state (lane8 i c.args.self.now)) (c.all_steps.ensures.value i lt _ (c.load.ensures.written i lt)))
