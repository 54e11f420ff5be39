use Rattle.std.proofs.Common.{◌≤◌, ℕ, arith, below_more, slice_index}
use Rattle.pieces.proofs.block_lanes.most_of.Goals as goal
use Rattle.pieces.proofs.block_lanes.most_of.Goals.{else-counts-i, then-counts-i}

pub lanes-preserved : goal.lanes-preserved
lanes-preserved g c =
    let at = c.lanes.invariant in
    let within = λ (k : ℕ). slice_index c.args.counts.now k ≤ c.if-counts-i.most in
    elim c.if-counts-i.branch [
      | then-counts-i w ↦ record {
        bound = below_more within c.lanes.i (λ k below. omega (arith, at.bound k below)) (omega arith);
        least = λ n all. omega (arith, all c.lanes.i (omega arith));
      }
      | else-counts-i w ↦ record {
        bound = below_more within c.lanes.i (λ k below. omega (arith, at.bound k below)) (omega arith);
        least = λ n all. omega (arith, at.least n all);
      }
    ]
