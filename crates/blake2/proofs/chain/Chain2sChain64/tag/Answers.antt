use Rattle.std.proofs.Common.{refl, ◌∙◌}
use Rattle.words.specs.Words.{word_bytes}
use Rattle.blake2.proofs.chain.Chain2sChain64.tag.Goals as goal

pub returns-clause-value : goal.returns-clause-value
unfolding word_bytes
returns-clause-value c = (rw c.unwrap.ensures at c.of.ensures).0 ∙ rw c.write_u32_into.ensures refl
