use Rattle.std.proofs.Common.{◌≡◌, ◌<◌, ◌*◌, [], ℕ, length, slice_index, slice_index_or}
use Rattle.std.specs.Int.{to_be_bytes, w128}
use Rattle.pieces.proofs.sha512_lanes.bit_counts.Given as goal

abbrev pub invariant-lanes : goal.invariant-lanes
invariant-lanes l = record {
  size : length l.counts ≡ 4;
  done : (k : ℕ) → k < l.i → slice_index_or l.counts k [] ≡ to_be_bytes w128 (8 * slice_index l.lens k);
  whole : (k : ℕ) → k < l.i → length (slice_index_or l.counts k []) ≡ 16;
}
