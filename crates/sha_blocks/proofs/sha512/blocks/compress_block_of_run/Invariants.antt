use Rattle.std.proofs.Common.{◌≡◌, ◌*◌, ℕ, List}
use Rattle.sha2.specs.Sha512.{rounds, schedule}
use Rattle.sha_blocks.specs.inside.Schedules512.{IsKeyedTo}
use Rattle.sha_blocks.proofs.sha512.blocks.compress_block_of_run.Given as goal

abbrev pub invariant-turns : goal.invariant-turns
invariant-turns l = (b : List ℕ) → IsKeyedTo b 80 l.i l.schedules → l.v ≡ rounds l.fn.h (schedule b 64) (8 * l.turn)
