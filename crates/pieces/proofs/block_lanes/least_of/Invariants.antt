use Rattle.std.proofs.Common.{◌<◌, ◌≤◌, ℕ, slice_index}
use Rattle.pieces.proofs.block_lanes.least_of.Given as goal

abbrev pub invariant-lanes : goal.invariant-lanes
invariant-lanes g l = (k : ℕ) → k < l.i → l.least ≤ slice_index l.counts k
