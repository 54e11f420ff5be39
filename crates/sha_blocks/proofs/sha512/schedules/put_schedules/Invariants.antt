use Rattle.std.proofs.Common.{◌≡◌, ◌<◌, ◌+◌, ◌*◌, ℕ, [], length, slice_index_or}
use Rattle.sha_blocks.specs.inside.Schedules512.{IsAhead}
use Rattle.sha_blocks.proofs.sha512.schedules.put_schedules.Given as goal

abbrev pub invariant-turns : goal.invariant-turns
invariant-turns l = record {
  words : length l.words ≡ 80;
  out : length l.out ≡ 80;
  ahead : (i : ℕ) → i < 4 → IsAhead (slice_index_or l.blocks i []) (4 * l.turn + 16) i l.words l.out;
}
