use Rattle.std.proofs.Common.{◌≡◌, ◌+◌, arith, length}
use Rattle.std.proofs.Common.{take, drop}
use Rattle.std.proofs.Common.{slice_index, ◌∙◌, length-set}
use Rattle.std.proofs.lemmas.Bool.{cases_eq}
use Rattle.words.specs.Words.{padded}
use Rattle.pieces.proofs.PieceLemmas.{row_more}
use Rattle.pieces.proofs.last_blocks.padded_tails.Goals as goal

pub lanes-preserved : goal.lanes-preserved
lanes-preserved g c = record {
  size = length-set c.lanes.tails c.lanes.i c.padded_tail.result ∙ c.lanes.invariant.size;
  value = λ k. row_more
      (λ j row. row
      ≡ padded g.row.N (take c.args.len (drop (slice_index c.args.starts.now j + c.args.at) c.args.bytes.now)))
      c.lanes.tails c.lanes.i c.padded_tail.result (omega arith) c.padded_tail.ensures.value c.lanes.invariant.value k
      (cases_eq k c.lanes.i);
  whole = λ k. row_more (λ j row. length row ≡ g.row.N) c.lanes.tails c.lanes.i c.padded_tail.result (omega arith)
      c.padded_tail.ensures.whole c.lanes.invariant.whole k (cases_eq k c.lanes.i);
}
