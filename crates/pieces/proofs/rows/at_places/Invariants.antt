use Rattle.std.proofs.Common.{◌≡◌, ◌<◌, ◌+◌, ℕ, length, slice_index}
use Rattle.pieces.proofs.rows.at_places.Given as goal

abbrev pub invariant-lanes : goal.invariant-lanes
invariant-lanes g l = record {
  whole : length l.picked ≡ g.row.LANES;
  done : (k : ℕ) → k < l.k → slice_index l.picked k ≡ slice_index l.list (l.first + slice_index l.places k);
}
