use Rattle.std.proofs.Common.{refl}
use Rattle.sha2.proofs.Schedule512.{rounds_first}
use Rattle.sha_blocks.proofs.sha512.ring.first_step.Goals as goal

pub returns : goal.returns
returns c = λ b h window held.
    rounds_first b h c.args.ring.now c.args.v c.args.t _ _ _ c.requires window held refl refl c.round.ensures
