use Rattle.std.proofs.Common.{slice_index}
use Rattle.pieces.proofs.Chunks.{AreDigests}
use Rattle.pieces.proofs.blake3_lanes.LanesBlake3PieceHash832.rows.Given as goal

abbrev pub invariant-messages : goal.invariant-messages
invariant-messages l = AreDigests l.bytes l.starts (slice_index l.lens) l.digests l.i
