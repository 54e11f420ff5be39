use Rattle.std.proofs.Common.{refl, sym, ap, ◌∙◌}
use Rattle.std.proofs.lemmas.List.{map-id}
use Rattle.words.specs.Blake2.{compress}
use Rattle.words.specs.inside.Lanes.{lane8}
use Rattle.pieces.proofs.lanes2.words32.next_lanes.Goals as goal

pub returns : goal.returns
unfolding compress
returns c i h =
    sym (ap (lane8 i) (map-id c.folded.result)) ∙ c.folded.ensures i h
    ∙ rw (
      map-id c.args.h,
      c.ten_rounds-v.ensures i h,
      map-id c.working_lanes-v.result,
      map-id c.args.m.now,
      c.working_lanes-v.ensures i h,
    ) refl
