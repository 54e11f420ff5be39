use Rattle.std.proofs.Common.{◌≡◌, ◌<◌, ◌+◌, ◌*◌, ℕ, List, [], length, slice_index_or, take}
use Rattle.std.specs.Simd.Lanes.{fold_l}
use Rattle.sha2.specs.Sha512.{compress}
use Rattle.sha_blocks.specs.inside.Schedules512.{AreKeyed, IsAhead}
use Rattle.sha_blocks.proofs.sha512.blocks.compress_run_making_next.Given as goal

abbrev pub invariant-blocks-2 : goal.invariant-blocks-2
invariant-blocks-2 l = record {
  words : length l.words ≡ 80;
  next : length l.next ≡ 80;
  value : (run : List (List ℕ)) → AreKeyed run l.schedules → l.value ≡ fold_l compress l.h (take l.i run);
  ahead : (j : ℕ) → j < 4 → IsAhead (slice_index_or l.other j []) (16 * l.i + 16) j l.words l.next;
}
