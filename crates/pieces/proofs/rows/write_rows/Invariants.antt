use Rattle.std.proofs.Common.{◌≡◌, ◌<◌, ◌≤◌, ◌-◌, ◌*◌, ℕ, drop, length, slice_index, take}
use Rattle.pieces.proofs.rows.write_rows.Given as goal

abbrev pub invariant-windows : goal.invariant-windows
invariant-windows g l = record {
  within : l.first ≤ length l.starts;
  length : length l.out ≡ length l.fn.out;
  right : (i : ℕ) → i < l.first
      → take (g.H.PieceHash.size l.hash) (drop (g.H.PieceHash.size l.hash * i) l.out)
      ≡ g.H.PieceHash.digest l.hash (take (slice_index l.lens i) (drop (slice_index l.starts i) l.bytes));
}

abbrev pub decreases-windows : goal.decreases-windows
decreases-windows g l = length l.starts - l.first
