use Rattle.std.proofs.Common.{◌≡◌, ◌<◌, ◌-◌, ◌/◌, ℕ, length, slice_index}
use Rattle.pieces.proofs.last_blocks.blocks_before.Given as goal

abbrev pub invariant-lanes : goal.invariant-lanes
invariant-lanes g l = record {
  whole : length l.counts ≡ g.row.LANES;
  done : (k : ℕ) → k < l.i → slice_index l.counts k ≡ (slice_index l.lens k - 1) / g.row.N;
}
