use Rattle.std.proofs.Common.{refl, ◌∙◌}
use Rattle.words.proofs.lanes.compress_3x8.Goals as goal

pub returns : goal.returns
returns c i h = c.lane_rows.ensures i h ∙ c.next_lanes.ensures i h
    ∙ rw (c.value_lanes.ensures i h, c.row_lanes.ensures i h) refl
