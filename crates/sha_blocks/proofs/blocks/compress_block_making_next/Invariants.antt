use Rattle.std.proofs.Common.{◌≡◌, ◌<◌, ◌+◌, ◌*◌, ℕ, List, [], length, slice_index_or}
use Rattle.sha2.specs.Sha256.{rounds, schedule}
use Rattle.sha_blocks.specs.inside.Schedules.{IsAhead, IsKeyedTo}
use Rattle.sha_blocks.proofs.blocks.compress_block_making_next.Given as goal

abbrev pub invariant-turns : goal.invariant-turns
invariant-turns l = record {
  words : length l.words ≡ 64;
  next : length l.next ≡ 64;
  value : (b : List ℕ) → IsKeyedTo b 64 l.i l.schedules → l.v ≡ rounds l.fn.h (schedule b 48) (8 * l.turn);
  ahead : (j : ℕ) → j < 8 → IsAhead (slice_index_or l.other j []) (8 * l.i) j l.fn.words l.fn.next
      → IsAhead (slice_index_or l.other j []) (8 * l.i + l.turn) j l.words l.next;
}
