use Rattle.std.proofs.Common.{◌≡◌, ◌<◌, ◌≤◌, ◌+◌, ◌*◌, ℕ, slice_index, length}
use Rattle.pieces.proofs.digests.starts_of.Given as goal

abbrev pub invariant-lanes : goal.invariant-lanes
invariant-lanes g l = record {
  size : length l.starts ≡ g.row.LANES;
  inside : (k : ℕ) → k < l.i → slice_index l.starts k + l.piece_len ≤ l.len;
  placed : (k : ℕ) → k < l.i → k < l.count → slice_index l.starts k ≡ l.piece_len * (l.done + k);
}
