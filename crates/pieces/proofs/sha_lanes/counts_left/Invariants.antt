use Rattle.std.proofs.Common.{◌≡◌, ◌<◌, ◌≤◌, ◌+◌, ◌-◌, ◌*◌, ◌%◌, ℕ, length, slice_index}
use Rattle.pieces.proofs.sha_lanes.counts_left.Given as goal

abbrev pub invariant-lanes : goal.invariant-lanes
invariant-lanes g l = record {
  whole : length l.counts ≡ g.row.LANES;
  filled : (k : ℕ) → k < l.i → g.row.N * slice_index l.counts k
      ≡ slice_index l.lens k % g.row.N
      + (1 + (2 * g.row.N - 1 - l.size - slice_index l.lens k % g.row.N) % g.row.N + l.size);
  few : (k : ℕ) → k < l.i → slice_index l.counts k ≤ 2;
}
