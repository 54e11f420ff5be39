use Rattle.std.proofs.Common.{◌≡◌, ◌<◌, ◌+◌, [], ℕ, length, take, drop, slice_index, slice_index_or}
use Rattle.words.specs.Words.{padded}
use Rattle.pieces.proofs.last_blocks.padded_tails.Given as goal

abbrev pub invariant-lanes : goal.invariant-lanes
invariant-lanes g l = record {
  size : length l.tails ≡ g.row.LANES;
  value : (k : ℕ) → k < l.i → slice_index_or l.tails k []
      ≡ padded g.row.N (take l.len (drop (slice_index l.starts k + l.at) l.bytes));
  whole : (k : ℕ) → k < l.i → length (slice_index_or l.tails k []) ≡ g.row.N;
}
