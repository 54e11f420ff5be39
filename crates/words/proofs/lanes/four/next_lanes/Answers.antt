use Rattle.std.proofs.Common.{refl, sym, ap, ◌∙◌}
use Rattle.std.proofs.lemmas.List.{map-id}
use Rattle.words.specs.Blake3.{compress3}
use Rattle.words.specs.inside.Lanes.{lane8}
use Rattle.words.proofs.lanes.four.next_lanes.Goals as goal

pub returns : goal.returns
unfolding compress3
returns g c i h =
    sym (ap (lane8 i) (map-id c.folded3.result)) ∙ c.folded3.ensures i h
    ∙ rw (
      c.seven_rounds-v.ensures i h,
      map-id c.working_lanes-v.result,
      map-id c.args.m,
      c.working_lanes-v.ensures i h,
    ) refl
