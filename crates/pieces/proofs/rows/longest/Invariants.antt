use Rattle.std.proofs.Common.{◌<◌, ◌≤◌, ℕ, length, slice_index}
use Rattle.pieces.proofs.rows.longest.Given as goal

abbrev pub invariant-messages : goal.invariant-messages
invariant-messages g l = record {
  count : l.count ≤ g.row.LANES;
  inside : (k : ℕ) → k < g.row.LANES → slice_index l.places k < length l.lens;
}

abbrev pub invariant-others : goal.invariant-others
invariant-others g l = (k : ℕ) → k < g.row.LANES → slice_index l.places k < length l.lens
