use Rattle.std.proofs.Common.{◌≡◌, ℕ, List, take}
use Rattle.std.specs.Simd.Lanes.{fold_l}
use Rattle.sha2.specs.Sha256.{compress}
use Rattle.sha_blocks.specs.inside.Schedules.{AreKeyed}
use Rattle.sha_blocks.proofs.blocks.compress_run.Given as goal

abbrev pub invariant-blocks-2 : goal.invariant-blocks-2
invariant-blocks-2 l = (run : List (List ℕ)) → AreKeyed run l.schedules → l.value ≡ fold_l compress l.h (take l.i run)
