use Rattle.std.proofs.Common.{◌<◌, ℕ, length, slice_index}
use Rattle.pieces.proofs.rows.insert.Given as goal

abbrev pub invariant-places : goal.invariant-places
invariant-places g l = record {
  next : l.next < length l.lens;
  inside : (k : ℕ) → k < g.row.LANES → slice_index l.places k < length l.lens;
}
