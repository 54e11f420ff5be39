use Rattle.std.proofs.Common.{◌∙◌, arith}
use Rattle.pieces.proofs.Chunks.{digest_of_words, digest_row, digests_more}
use Rattle.pieces.proofs.chunk_lanes.chunk_digests.Goals as goal

pub lanes-preserved : goal.lanes-preserved
lanes-preserved c =
    digests_more c.args.bytes.now c.args.starts.now (λ k. c.args.len) c.lanes.digests c.lanes.i _ c.lanes.invariant
    (omega arith)
    (c.bytes32.ensures.written
    ∙ digest_of_words _ _ (c.lane_rows-rows.ensures c.lanes.i (omega arith)
    ∙ c.root_lanes.ensures c.lanes.i (omega arith)))

pub returns-clause-value : goal.returns-clause-value
returns-clause-value c = λ i h. c.lanes.invariant.written i (omega arith)

pub returns-clause-whole : goal.returns-clause-whole
returns-clause-whole c = λ i h. (digest_row _ _ (c.lanes.invariant.written i (omega arith))).1
