use Rattle.std.proofs.Common.{◌≡◌, ◌<◌, ℕ, false, slice_index, slice_index_or, true}
use Rattle.pieces.proofs.rows.stop_waiting.Given as goal

abbrev pub invariant-places : goal.invariant-places
invariant-places g l = (j : ℕ) → j < l.k → slice_index_or l.waiting (slice_index l.places j) true ≡ false
