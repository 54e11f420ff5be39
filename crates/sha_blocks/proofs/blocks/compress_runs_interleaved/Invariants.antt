use Rattle.std.proofs.Common.{◌≡◌, ◌-◌, [], length, slice_index_or, take}
use Rattle.std.specs.Simd.Lanes.{fold_l}
use Rattle.sha2.specs.Sha256.{compress}
use Rattle.sha_blocks.specs.inside.Schedules.{AreKeyed}
use Rattle.sha_blocks.proofs.blocks.compress_runs_interleaved.Given as goal

abbrev pub invariant-runs : goal.invariant-runs
invariant-runs l = record {
  words : length l.words ≡ 64;
  made : length l.made ≡ 64;
  room : length l.room ≡ 64;
  value : l.h ≡ fold_l (λ v run. fold_l compress v run) l.fn.h (take (l.k - 1) l.runs);
  keyed : AreKeyed (slice_index_or l.runs (l.k - 1) []) l.made;
}
