use Rattle.std.proofs.Common.{◌≡◌, ◌<◌, ◌+◌, ◌*◌, ℕ, List, length}
use Rattle.sha2.specs.Sha512.{rounds, schedule}
use Rattle.sha_blocks.specs.inside.Schedules512.{IsAhead, IsKeyedTo}
use Rattle.sha_blocks.proofs.sha512.blocks.compress_block_making_next.Given as goal

abbrev pub invariant-turns : goal.invariant-turns
invariant-turns l = record {
  words : length l.words ≡ 80;
  next : length l.next ≡ 80;
  value : (b : List ℕ) → IsKeyedTo b 80 l.i l.schedules → l.v ≡ rounds l.fn.h (schedule b 64) (8 * l.turn);
  ahead : (j : ℕ) → j < 4 → (b : List ℕ) → IsAhead b (16 * l.i + 16) j l.fn.words l.fn.next
      → IsAhead b (16 * l.i + 16 + 2 * l.turn) j l.words l.next;
}
