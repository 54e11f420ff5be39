use Rattle.std.proofs.Common.{refl, arith, ◌∙◌}
use Rattle.sha2.specs.Sha512.{digest_bytes}
use Rattle.words.proofs.LaneLemmas.{listed}
use Rattle.sha_blocks.proofs.value.Value512.bytes.Goals as goal

pub returns : goal.returns
unfolding digest_bytes
returns c = c.write_u64_into.ensures ∙ rw (listed 8 c.args.self.now.h (omega arith)) refl
