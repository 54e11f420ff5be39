use Rattle.std.proofs.Common.{◌≡◌, ℕ, List, slice_index, ap, ◌∙◌, arith}
use Rattle.b3.specs.Bytes.{slice}
use Rattle.b3.specs.Modes.{hash_root}
use Rattle.pieces.proofs.Chunks.{digest_row, digests_more, message}
use Rattle.pieces.proofs.blake3_lanes.LanesBlake3PieceHash832.rows.Goals as goal

pub returns-then-len-le-CHUNK_LEN-clause-value : goal.returns-then-len-le-CHUNK_LEN-clause-value
returns-then-len-le-CHUNK_LEN-clause-value c = λ i lt.
    let same : c.least_of-len.result ≡ slice_index c.args.lens.now i =
    omega (arith, c.least_of-len.ensures i lt, c.most_of.ensures.bound i lt) in
    rw (← same) (digest_row _ _ (c.chunk_digests.ensures.value i lt)).0

pub messages-preserved : goal.messages-preserved
messages-preserved c =
    let x : List ℕ = c.args.bytes.now in
    let s : ℕ = slice_index c.args.starts.now c.messages.i in
    digests_more x c.args.starts.now (slice_index c.args.lens.now) c.messages.digests c.messages.i _
    c.messages.invariant (omega arith)
    (c.digest_of.ensures ∙ ap (λ (n : ℕ). slice (hash_root (message x s n)) 0 32) (omega arith))

pub returns-clause-value : goal.returns-clause-value
returns-clause-value c = λ i h. (digest_row _ _ (c.messages.invariant.written i (omega arith))).0

pub returns-clause-whole : goal.returns-clause-whole
returns-clause-whole c = λ i h. (digest_row _ _ (c.messages.invariant.written i (omega arith))).1
