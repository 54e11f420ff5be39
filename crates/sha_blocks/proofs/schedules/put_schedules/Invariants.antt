use Rattle.std.proofs.Common.{◌≡◌, ◌<◌, ◌*◌, ℕ, [], length, slice_index_or}
use Rattle.sha_blocks.specs.inside.Schedules.{IsKeyedTo, IsWindowAt}
use Rattle.sha_blocks.proofs.schedules.put_schedules.Given as goal

abbrev pub invariant-turns : goal.invariant-turns
invariant-turns l = record {
  whole : length l.out ≡ 64;
  window : (i : ℕ) → i < 8 → IsWindowAt (slice_index_or l.blocks i []) (16 * l.turn) i l.w;
  keyed : (i : ℕ) → i < 8 → IsKeyedTo (slice_index_or l.blocks i []) (16 * l.turn) i l.out;
}
