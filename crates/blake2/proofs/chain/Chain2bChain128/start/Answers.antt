use Rattle.std.proofs.Common.{ap, arith, ℕ, List}
use Rattle.words.specs.Tables.{iv64}
use Rattle.words.proofs.ReadWords.{words_read}
use Rattle.blake2.specs.Blake2.{xor_words}
use Rattle.blake2.proofs.chain.Chain2bChain128.start.Goals as goal

pub returns : goal.returns
returns c = ap (λ (w : List ℕ). xor_words iv64 w) (words_read 8 8 _ _ (omega arith) c.read_u64_into.ensures)
