use Rattle.std.proofs.Common.{refl, ◌∙◌}
use Rattle.b3.proofs.Blocks.{IsChunk_full}
use Rattle.b3.proofs.chunk.Chunk.full.Goals as goal

pub returns-clause-holds : goal.returns-clause-holds
returns-clause-holds c = λ key x flags number size before last. IsChunk_full key flags number _ x size refl before
    (c.copy_from_slice.ensures.after ∙ last)
