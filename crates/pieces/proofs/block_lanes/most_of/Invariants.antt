use Rattle.std.proofs.Common.{◌<◌, ◌≤◌, ℕ, slice_index}
use Rattle.pieces.proofs.block_lanes.most_of.Given as goal

abbrev pub invariant-lanes : goal.invariant-lanes
invariant-lanes g l = record {
  bound : (k : ℕ) → k < l.i → slice_index l.counts k ≤ l.most;
  least : (n : ℕ) → ((k : ℕ) → k < g.row.LANES → slice_index l.counts k ≤ n) → l.most ≤ n;
}
