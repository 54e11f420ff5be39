use Rattle.std.proofs.Common.{◌≡◌, ℕ, ◌<◌, slice_index}
use Rattle.words.specs.Tables.{iv32}
use Rattle.words.specs.inside.Lanes.{lane8}
use Rattle.b3.specs.Chunk.{value_before}
use Rattle.pieces.proofs.Chunks.{message}
use Rattle.pieces.proofs.chunk_lanes.root_lanes.Given as goal

abbrev pub invariant-each_block : goal.invariant-each_block
invariant-each_block l = (i : ℕ) → i < 8
    → lane8 i l.values ≡ value_before iv32 0 0 (message l.bytes (slice_index l.starts i) l.len) l.j
