use Rattle.std.proofs.Common.{◌≡◌, ◌*◌, ℕ, List}
use Rattle.sha2.specs.Sha256.{rounds, schedule}
use Rattle.sha_blocks.specs.inside.Schedules.{IsKeyedTo}
use Rattle.sha_blocks.proofs.blocks.all_rounds.Given as goal

abbrev pub invariant-quarters : goal.invariant-quarters
invariant-quarters l = (b : List ℕ) → IsKeyedTo b 64 l.i l.schedules
    → l.v ≡ rounds l.fn.v (schedule b 48) (16 * l.quarter)
