use Rattle.std.proofs.Common.{ℕ, ◌+◌, ◌*◌, [], ◌∷◌, slice_index, arith, ap, ◌∙◌}
use Rattle.words.specs.inside.Halves.{half_message, of_pairs}
use Rattle.words.proofs.LaneLemmas.{below_four}
use Rattle.b3.proofs.Lanes8.{blocks_begun, blocks_more}
use Rattle.b3.proofs.lanes.two_pair_values.Goals as goal

pub each_block-init : goal.each_block-init
each_block-init c =
    let same = c.same_halves-start.ensures in
    blocks_begun _ _ _ _ 4 _ _ (below_four _ (same 0 (omega arith)) (same 1 (omega arith)) (same 0 (omega arith))
    (same 1 (omega arith)))

pub each_block-preserved : goal.each_block-preserved
each_block-preserved c =
    let j : ℕ = c.each_block.j in
    let left = c.message_halves-left in
    let right = c.message_halves-right in
    let next = c.next_pairs-next.ensures in
    blocks_more _ _ _ _ _ 4 j (slice_index c.numbers-counters.result) (λ k. slice_index c.lane_starts.result k + 64 * j)
    _ _ (of_pairs half_message (left.result ∷ right.result ∷ [])) _ c.each_block.invariant (omega arith)
    (below_four _ (left.ensures 0 (omega arith)) (left.ensures 1 (omega arith)) (right.ensures 0 (omega arith))
    (right.ensures 1 (omega arith)))
    (λ k h w. ap (λ (a : ℕ). a + 64 * j) (c.lane_starts.ensures.own k h (omega arith)))
    c.numbers-counters.ensures
    (below_four _ (next 0 (omega arith) 0 (omega arith)) (next 0 (omega arith) 1 (omega arith))
    (next 1 (omega arith) 0 (omega arith)) (next 1 (omega arith) 1 (omega arith)))
    c.block_flags-d.ensures.first c.block_flags-d.ensures.later c.block_flags-d.ensures.last

pub returns-clause-values : goal.returns-clause-values
returns-clause-values c = λ k h w. c.pair_rows.ensures k h ∙ (c.each_block.invariant k h w).2 (omega arith)

pub returns-clause-before : goal.returns-clause-before
returns-clause-before c = λ k h w. c.pair_rows-2.ensures k h ∙ (c.each_block.invariant k h w).1 (omega arith)
