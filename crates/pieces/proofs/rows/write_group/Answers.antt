use Rattle.std.proofs.Common.{◌≡◌, ◌≢◌, ◌+◌, ◌∙◌, [], ℕ, ap, arith, drop, false, length, slice_index}
use Rattle.std.proofs.Common.{slice_index_or, sym, take, true}
use Rattle.std.proofs.lemmas.List.{get_or-set_other}
use Rattle.pieces.specs.inside.Rows.{IsRow}
use Rattle.pieces.proofs.PieceLemmas.{row_written, row_within}
use Rattle.pieces.proofs.rows.write_group.Goals as goal

pub rows-preserved : goal.rows-preserved
rows-preserved g c =
    let hash = g.H.PieceHash.digest c.args.hash.now in
    let m = c.args.messages.now in
    let size : ℕ = g.H.PieceHash.size c.args.hash.now in
    let k : ℕ = c.rows.k in
    let place : ℕ = slice_index c.args.places.now k in
    let same : c.digest_len-size.result ≡ size = c.digest_len-size.ensures.value in
    let room = row_within size (length m.starts.now) (c.args.first + place) (length c.args.out.now)
    (c.requires.inside k (omega arith)) c.requires.room in
    let row : (j : ℕ)
    → ((j ≢ c.args.first + place) → IsRow hash size m c.rows.out j)
    → IsRow hash size m c.put_digest.new.out j =
    λ j before. row_written hash size m c.rows.out
    c.put_digest.new.out (slice_index_or c.rows-rows.result k []) (c.args.first + place) j
    (omega (arith, room, c.rows.invariant.length))
    (omega (arith, c.digest_len-size.ensures, c.rows-rows.ensures.whole k (omega arith)))
    (c.rows-rows.ensures.value k (omega arith)
    ∙ ap (λ (s : ℕ). hash (take (slice_index c.at_places-2.result k) (drop s m.bytes.now)))
    (c.at_places.ensures k (omega arith))
    ∙ ap (λ (n : ℕ). hash (take n (drop (slice_index m.starts.now (c.args.first + place)) m.bytes.now)))
    (c.at_places-2.ensures k (omega arith)))
    (rw same at c.put_digest.ensures.front) (rw same at c.put_digest.ensures.rest) before in
    record {
      length = c.put_digest.ensures.length ∙ c.rows.invariant.length;
      right = λ j lt marked. row (c.args.first + j) (λ other.
          let apart : j ≢ place = omega (arith, other) in
          c.rows.invariant.right j lt (sym (get_or-set_other c.rows.written place j true false apart) ∙ marked));
      kept = λ j before. row j (λ other. c.rows.invariant.kept j before);
    }
