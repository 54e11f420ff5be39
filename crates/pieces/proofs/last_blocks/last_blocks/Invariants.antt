use Rattle.std.proofs.Common.{◌≡◌, ◌<◌, ◌+◌, ◌-◌, ◌*◌, [], ℕ, length, take, drop, slice_index, slice_index_or}
use Rattle.words.specs.Words.{padded}
use Rattle.pieces.proofs.last_blocks.last_blocks.Given as goal

abbrev pub invariant-lanes : goal.invariant-lanes
invariant-lanes g l = record {
  size : length l.blocks ≡ g.row.LANES;
  value : (k : ℕ) → k < l.i → let done : ℕ = g.row.N * slice_index l.counts k in slice_index_or l.blocks k []
      ≡ padded g.row.N (take (slice_index l.lens k - done) (drop (slice_index l.starts k + done) l.bytes));
  whole : (k : ℕ) → k < l.i → length (slice_index_or l.blocks k []) ≡ g.row.N;
}
