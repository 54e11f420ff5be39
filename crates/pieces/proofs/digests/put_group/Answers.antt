use Rattle.std.proofs.Common.{◌≡◌, ◌+◌, ◌*◌, ◌≤◌, [], ℕ, ap, subst, ◌∙◌, arith, sym}
use Rattle.std.proofs.Common.{length, take, drop, slice_index, slice_index_or}
use Rattle.std.proofs.lemmas.List.{get_or-replicate}
use Rattle.pieces.specs.Pieces.{first_digests}
use Rattle.pieces.proofs.PieceLemmas.{digest_more, rows_small, start_within}
use Rattle.pieces.proofs.digests.put_group.Goals as goal

pub starts_of-starts-requires : goal.starts_of-starts-requires
starts_of-starts-requires g c =
    (omega (arith, g.met.H.PieceHash.few_lanes), (c.requires.piece, (c.requires.some, c.requires.whole)))

pub rows-rows-requires : goal.rows-rows-requires
rows-rows-requires g c =
    let few = g.met.H.PieceHash.few_lanes in
    let small = g.met.H.PieceHash.small in (
      omega arith,
      (
        rows_small g.row.LANES g.row.LANES g.row.MOST (omega arith) few (omega (arith, small)),
        (
          omega arith,
          λ i lt. rw (get_or-replicate g.row.LANES i c.args.piece_len 0 lt) (c.starts_of-starts.ensures.fits i lt),
        ),
      ),
    )

pub offset_bounds-rows-i : goal.offset_bounds-rows-i
offset_bounds-rows-i g c =
    let fits = rows_small c.rows.i g.row.LANES g.row.MOST (omega (arith, c.requires.lanes)) g.met.H.PieceHash.few_lanes
    (omega (arith, g.met.H.PieceHash.small)) in
    omega arith

pub put_digest-requires : goal.put_digest-requires
put_digest-requires g c =
    let size = c.digest_len-size.result in
    let room : size * (c.args.done + c.args.count) ≤ length c.args.out.now =
    subst (λ s. s * (c.args.done + c.args.count) ≤ length c.args.out.now) (sym c.digest_len-size.ensures.value)
    c.requires.room in
    let inside = start_within size c.args.done c.args.count c.rows.i (length c.args.out.now) (omega arith) room in (
      omega (arith, g.met.H.PieceHash.small),
      (
        omega (arith, c.digest_len-size.ensures.most, c.rows-rows.ensures.whole c.rows.i (omega arith)),
        omega (arith, c.rows.invariant.length),
      ),
    )

pub rows-preserved : goal.rows-preserved
rows-preserved g c =
    let n = c.args.piece_len in
    let i = c.rows.i in
    let size = c.digest_len-size.result in
    let digest = g.H.PieceHash.digest c.args.hash.now in
    let out = c.put_digest.new.out in
    let row = slice_index_or c.rows-rows.result i [] in
    let at = c.rows.invariant in
    let made : take size row ≡ digest (take n (drop (slice_index c.starts_of-starts.result i) c.args.bytes.now)) =
    ap (λ s. take s row) c.digest_len-size.ensures.value ∙ c.rows-rows.ensures.value i (omega arith)
    ∙ ap (λ (k : ℕ). digest (take k (drop (slice_index c.starts_of-starts.result i) c.args.bytes.now)))
    (get_or-replicate g.row.LANES i n 0 (omega arith)) in
    record {
      length = c.put_digest.ensures.length ∙ at.length;
      value = subst (λ k. take (size * k) out ≡ first_digests digest n c.args.bytes.now k) (omega arith)
          (digest_more digest n size (c.args.done + i) c.args.bytes.now _ _ _ _
          (ap (λ s. take n (drop s c.args.bytes.now)) (c.starts_of-starts.ensures.place i (omega arith) (omega arith)))
          made at.value c.put_digest.ensures.front);
    }
