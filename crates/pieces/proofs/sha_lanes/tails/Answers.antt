use Rattle.std.proofs.Common.{◌≡◌, ◌+◌, ◌-◌, ◌%◌, ◌++◌, ◌∙◌, [], ℕ, List, arith, drop, length, length-set, replicate}
use Rattle.std.proofs.Common.{slice_index, slice_index_or, take}
use Rattle.std.proofs.lemmas.Bool.{cases_eq}
use Rattle.std.proofs.lemmas.List.{get_or-replicate, get_or-set_other, length-replicate}
use Rattle.pieces.specs.inside.Blocks.{padding}
use Rattle.pieces.proofs.PieceLemmas.{row_more}
use Rattle.pieces.proofs.sha_lanes.tails.Goals as goal

pub rows-init : goal.rows-init
rows-init g c = record {
  size = length-replicate {A = List ℕ} g.row.LANES (replicate g.row.TWO 0);
  value = λ k none. absurd (omega arith);
  whole = λ k none. absurd (omega arith);
  rest = λ k above lt. get_or-replicate {A = List ℕ} g.row.LANES k (replicate g.row.TWO 0) [] lt;
}

pub rows-preserved : goal.rows-preserved
rows-preserved g c =
    let n : ℕ = g.row.N in
    let i = c.rows.i in
    let at = c.rows.invariant in
    let next = c.put_tail.new.tail in
    let len : ℕ → ℕ = slice_index c.args.lens.now in
    let end : ℕ → List ℕ = λ j. padding n (slice_index_or c.args.counts.now j []) (len j) in
    record {
      size = length-set c.rows.rows i next ∙ at.size;
      value = λ k. row_more
          (λ j row. take (len j % n + length (end j)) row
          ≡ take (len j % n) (drop (slice_index c.args.starts.now j + (len j - len j % n)) c.args.bytes.now) ++ end j)
          c.rows.rows i next (omega (arith, at.size)) c.put_tail.ensures.value at.value k (cases_eq k i);
      whole = λ k. row_more (λ j row. length row ≡ g.row.TWO) c.rows.rows i next (omega (arith, at.size))
          c.put_tail.ensures.whole at.whole k (cases_eq k i);
      rest = λ k above lt. get_or-set_other c.rows.rows i k next [] (omega arith) ∙ at.rest k (omega arith) lt;
    }
