use Rattle.pieces.proofs.Chunks.{AreDigests}
use Rattle.pieces.proofs.chunk_lanes.chunk_digests.Given as goal

abbrev pub invariant-lanes : goal.invariant-lanes
invariant-lanes l = AreDigests l.bytes l.starts (λ k. l.len) l.digests l.i
