use Rattle.std.proofs.Common.{◌≡◌, ◌<◌, ◌≤◌, ℕ, slice_index}
use Rattle.pieces.specs.inside.Blocks.{taken}
use Rattle.pieces.proofs.block_lanes.take_each.Given as goal

abbrev pub invariant-each : goal.invariant-each
invariant-each g l = record {
  on : (i : ℕ) → i < g.row.LANES → l.block ≤ slice_index l.counts i → g.H.HashValues.lane i l.values
      ≡ taken g.H.HashValues.made g.row.N (g.H.HashValues.lane i l.fn.values) l.bytes (slice_index l.starts i) l.block;
  off : (i : ℕ) → i < g.row.LANES → slice_index l.counts i ≤ l.block → g.H.HashValues.lane i l.values
      ≡ taken g.H.HashValues.made g.row.N (g.H.HashValues.lane i l.fn.values) l.bytes (slice_index l.starts i)
      (slice_index l.counts i);
}
