use Rattle.std.proofs.Common.{◌≡◌, ◌≢◌, ◌<◌, ◌≤◌, ◌+◌, ◌*◌, ℕ, arith, ap, get_or, below_more, length, slice_set}
use Rattle.std.proofs.Common.{get_or-set_other, get_or-set_same}
use Rattle.std.proofs.lemmas.List.{length-set}
use Rattle.pieces.proofs.PieceLemmas.{count_within, start_within}
use Rattle.pieces.proofs.digests.starts_of.Goals as goal

pub overflow_add-starts : goal.overflow_add-starts
overflow_add-starts g c =
    let few = count_within c.args.piece_len (c.args.done + c.args.count) c.args.len c.requires.piece c.requires.fits in
    omega arith

pub overflow_mul-starts : goal.overflow_mul-starts
overflow_mul-starts g c =
    let inside = start_within c.args.piece_len c.args.done c.args.count c.min.result c.args.len (omega arith)
    c.requires.fits in
    omega arith

pub lanes-preserved : goal.lanes-preserved
lanes-preserved g c =
    let n = c.args.piece_len in
    let i = c.lanes.i in
    let start : ℕ = n * (c.args.done + c.min.result) in
    let at = c.lanes.invariant in
    let room : i < length c.lanes.starts = omega (arith, at.size) in
    record {
      size = rw length-set at.size;
      inside = below_more (λ k. get_or (slice_set c.lanes.starts i start) k 0 + n ≤ c.args.len) i
          (λ k h. let ne : k ≢ i = omega arith in rw get_or-set_other (at.inside k h))
          (rw get_or-set_same (start_within n c.args.done c.args.count c.min.result c.args.len (omega arith)
          c.requires.fits));
      placed = below_more
          (λ k. k < c.args.count → get_or (slice_set c.lanes.starts i start) k 0 ≡ n * (c.args.done + k)) i
          (λ k h few. let ne : k ≢ i = omega arith in rw get_or-set_other (at.placed k h few))
          (λ few. rw get_or-set_same (ap (λ (j : ℕ). n * (c.args.done + j)) (omega arith)));
    }
