use Rattle.std.proofs.Common.{◌≡◌, ◌<◌, ◌*◌, ◌%◌, ◌^◌, [], ℕ, length, slice_index, slice_index_or}
use Rattle.std.specs.Int.{to_be_bytes, w64}
use Rattle.pieces.proofs.sha256_lanes.bit_counts.Given as goal

abbrev pub invariant-lanes : goal.invariant-lanes
invariant-lanes l = record {
  size : length l.counts ≡ 8;
  done : (k : ℕ) → k < l.i → slice_index_or l.counts k [] ≡ to_be_bytes w64 (slice_index l.lens k * 8 % 2 ^ 64);
  whole : (k : ℕ) → k < l.i → length (slice_index_or l.counts k []) ≡ 8;
}
