use Rattle.std.proofs.Common.{◌≡◌, ◌≤◌, ◌+◌, ◌*◌, ◌-◌, ℕ, List, ap, sym, subst, ◌∙◌, arith, length, take, drop}
use Rattle.pieces.specs.Pieces.{first_digests, piece}
use Rattle.pieces.proofs.PieceLemmas.{cut_off, digest_more, room_within, whole_counted}
use Rattle.pieces.proofs.digests.write_digests.Goals as goal

pub groups-init : goal.groups-init
unfolding first_digests
groups-init g c =
    let none : c.digest_len-size.result * 0 ≡ 0 = omega arith in
    record {
      counted = omega arith;
      length = omega (arith, c.in_ok-total.ensures.3);
      value = ap (λ n. take n c.args.out.now) none;
    }

pub put_group-requires-clause-room : goal.put_group-requires-clause-room
put_group-requires-clause-room g c =
    let size = c.digest_len-size.result in
    let all = whole_counted c.args.piece_len (length c.args.bytes.now) c.in_ok-total.ensures.1 in
    let count : c.groups.done + c.min-count.result ≤ c.in_ok-total.total = omega (arith, c.in_ok-total.ensures.2) in
    let room : size * (c.groups.done + c.min-count.result) ≤ length c.groups.out =
    subst (λ n. size * (c.groups.done + c.min-count.result) ≤ n) (sym c.groups.invariant.length)
    (room_within size (c.groups.done + c.min-count.result) c.in_ok-total.total count) in
    subst (λ s. s * (c.groups.done + c.min-count.result) ≤ length c.groups.out) c.digest_len-size.ensures.value room

pub rest-preserved : goal.rest-preserved
rest-preserved g c =
    let n = c.args.piece_len in
    let done = c.rest.done in
    let size = c.digest_len-size.result in
    let digest = g.H.PieceHash.digest c.args.hash.now in
    let row = c.one-digest.result in
    let at : ℕ = n * done in
    let m : List ℕ = take c.min.result (take (length c.args.bytes.now - at) (drop at c.args.bytes.now)) in
    let made : take size row ≡ digest m =
    ap (λ s. take s row) c.digest_len-size.ensures.value ∙ c.one-digest.ensures.value in
    let cut : m ≡ piece n c.args.bytes.now done = cut_off n c.min.result at c.args.bytes.now (omega arith) in
    record {
      counted = omega arith;
      length = c.put_digest.ensures.length ∙ c.rest.invariant.length;
      value = digest_more digest n size done c.args.bytes.now _ _ row m cut made c.rest.invariant.value
          c.put_digest.ensures.front;
    }
