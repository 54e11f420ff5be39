use Rattle.std.proofs.Common.{ap, ◌∙◌}
use Rattle.words.specs.Words.{words, word_bytes}
use Rattle.words.proofs.WordsBack.{words_back}
use Rattle.words.proofs.writing.bytes32.Goals as goal

pub returns-clause-written : goal.returns-clause-written
unfolding word_bytes
returns-clause-written c = c.write_u32_into.ensures

pub returns-clause-read : goal.returns-clause-read
returns-clause-read c =
    ap (words 4 8) (returns-clause-written c) ∙ words_back 8 c.args.value.now c.told-value (λ i h. c.fits-value i)
