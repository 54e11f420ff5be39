use Rattle.std.proofs.Common.{◌≡◌, ◌<◌, ◌*◌, ℕ, List, [], length, slice_index_or, take}
use Rattle.std.specs.Simd.Lanes.{fold_l}
use Rattle.sha2.specs.Sha256.{compress}
use Rattle.sha_blocks.specs.inside.Schedules.{AreKeyed, IsAhead}
use Rattle.sha_blocks.proofs.blocks.compress_run_making_next.Given as goal

abbrev pub invariant-first : goal.invariant-first
invariant-first l = record {
  words : length l.words ≡ 64;
  next : length l.next ≡ 64;
  value : (run : List (List ℕ)) → AreKeyed run l.schedules → l.value ≡ fold_l compress l.h (take l.i run);
  ahead : (j : ℕ) → j < 8 → IsAhead (slice_index_or l.other j []) (8 * l.i) j l.words l.next;
}

abbrev pub invariant-others : goal.invariant-others
invariant-others l = record {
  words : length l.words ≡ 64;
  next : length l.next ≡ 64;
  value : (run : List (List ℕ)) → AreKeyed run l.schedules → l.value ≡ fold_l compress l.h (take l.i run);
  ahead : (j : ℕ) → j < 8 → IsAhead (slice_index_or l.other j []) (8 * l.i) j l.words l.next;
}
