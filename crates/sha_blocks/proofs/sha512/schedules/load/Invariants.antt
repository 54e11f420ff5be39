use Rattle.std.proofs.Common.{◌≡◌, ◌<◌, ℕ, [], length, slice_index_or}
use Rattle.sha_blocks.specs.inside.Schedules512.{IsAhead}
use Rattle.sha_blocks.proofs.sha512.schedules.load.Given as goal

abbrev pub invariant-first : goal.invariant-first
invariant-first l = record {
  words : length l.words ≡ 80;
  out : length l.out ≡ 80;
  ahead : (i : ℕ) → i < 4 → IsAhead (slice_index_or l.blocks i []) l.t i l.words l.out;
}
