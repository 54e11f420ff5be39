use Rattle.std.proofs.Common.{ap, ◌∙◌}
use Rattle.sha2.specs.Sha256.{add_state, compress}
use Rattle.sha_blocks.proofs.blocks.compress_block_of_run.Goals as goal

pub returns : goal.returns
unfolding compress
returns c = λ b keyed. c.sums.ensures ∙ ap (add_state c.args.h.now) (c.all_rounds.ensures b keyed)
