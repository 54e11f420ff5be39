use Rattle.std.proofs.Common.{◌≡◌, ◌*◌, ◌∙◌, arith, length, length-set, slice_index}
use Rattle.std.specs.Int.{to_be_bytes, w128}
use Rattle.std.proofs.lemmas.Bool.{cases_eq}
use Rattle.pieces.proofs.PieceLemmas.{row_more}
use Rattle.pieces.proofs.sha512_lanes.bit_counts.Goals as goal

pub lanes-preserved : goal.lanes-preserved
lanes-preserved c = record {
  size = length-set c.lanes.counts c.lanes.i c.bit_count.result ∙ c.lanes.invariant.size;
  done = λ k. row_more (λ j row. row ≡ to_be_bytes w128 (8 * slice_index c.args.lens.now j))
      c.lanes.counts c.lanes.i c.bit_count.result (omega arith) c.bit_count.ensures.value c.lanes.invariant.done k
      (cases_eq k c.lanes.i);
  whole = λ k. row_more (λ j row. length row ≡ 16) c.lanes.counts c.lanes.i c.bit_count.result (omega arith)
      c.bit_count.ensures.whole c.lanes.invariant.whole k (cases_eq k c.lanes.i);
}
