use Rattle.std.proofs.Common.{ap, arith, ℕ, List}
use Rattle.words.specs.Tables.{iv32}
use Rattle.words.proofs.ReadWords.{words_read}
use Rattle.blake2.specs.Blake2.{xor_words}
use Rattle.blake2.proofs.chain.Chain2sChain64.start.Goals as goal

pub returns : goal.returns
returns c = ap (λ (w : List ℕ). xor_words iv32 w) (words_read 4 8 _ _ (omega arith) c.read_u32_into.ensures)
