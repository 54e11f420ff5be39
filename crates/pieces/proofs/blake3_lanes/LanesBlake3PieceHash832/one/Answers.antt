use Rattle.pieces.proofs.Chunks.{digest_row}
use Rattle.pieces.proofs.blake3_lanes.LanesBlake3PieceHash832.one.Goals as goal

pub returns-clause-value : goal.returns-clause-value
returns-clause-value c = (digest_row _ _ c.digest_of.ensures).0
