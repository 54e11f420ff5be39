use Rattle.std.proofs.Common.{◌≡◌, ◌<◌, ◌≤◌, ◌+◌, ◌*◌, ℕ, length, slice_index}
use Rattle.pieces.proofs.block_lanes.places_of.Given as goal

abbrev pub invariant-lanes : goal.invariant-lanes
invariant-lanes g l = record {
  whole : length l.places ≡ g.row.LANES;
  inside : (k : ℕ) → k < l.i → slice_index l.places k + l.size ≤ l.len;
  placed : (k : ℕ) → k < l.i → l.block < slice_index l.counts k
      → slice_index l.places k ≡ slice_index l.starts k + l.size * l.block;
}
