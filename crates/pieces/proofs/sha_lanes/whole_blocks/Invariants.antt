use Rattle.std.proofs.Common.{◌≡◌, ◌<◌, ◌/◌, ℕ, length, slice_index}
use Rattle.pieces.proofs.sha_lanes.whole_blocks.Given as goal

abbrev pub invariant-lanes : goal.invariant-lanes
invariant-lanes g l = record {
  whole : length l.counts ≡ g.row.LANES;
  done : (k : ℕ) → k < l.i → slice_index l.counts k ≡ slice_index l.lens k / g.row.N;
}
