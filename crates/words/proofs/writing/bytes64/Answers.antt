use Rattle.words.specs.Words.{word_bytes}
use Rattle.words.proofs.writing.bytes64.Goals as goal

pub returns : goal.returns
unfolding word_bytes
returns c = c.write_u64_into.ensures
