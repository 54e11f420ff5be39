use Rattle.std.proofs.Common.{◌≡◌, take}
use Rattle.std.specs.Simd.Lanes.{fold_l}
use Rattle.sha2.specs.Sha256.{compress}
use Rattle.sha_blocks.proofs.blocks.compress_runs_one_by_one.Given as goal

abbrev pub invariant-runs : goal.invariant-runs
invariant-runs l = l.h ≡ fold_l (λ v run. fold_l compress v run) l.fn.h (take l.run-index l.runs)
