use Rattle.std.proofs.Common.{◌≡◌, ◌≢◌, ◌+◌, ◌-◌, ℕ, arith, length, refl, slice_index}
use Rattle.pieces.specs.inside.Rows.{IsRow}
use Rattle.pieces.proofs.PieceLemmas.{row_written, row_within}
use Rattle.pieces.proofs.rows.write_left.Given.{Over}
use Rattle.pieces.proofs.rows.write_left.Goals.{After-slice_known-2-1}
use Rattle.pieces.proofs.rows.write_left.Goals as goal

-- the rows after the row of message i was written
pub row : (g : Over) (c : After-slice_known-2-1 g) (j : ℕ)
    → ((j ≢ c.args.i) → IsRow (g.H.PieceHash.digest c.args.hash.now) (g.H.PieceHash.size c.args.hash.now)
    c.args.messages.now c.args.out.now j)
    → IsRow (g.H.PieceHash.digest c.args.hash.now) (g.H.PieceHash.size c.args.hash.now) c.args.messages.now
    c.put_digest.new.out j
row g c j before =
    let start : ℕ = slice_index c.args.messages.now.starts.now c.args.i in
    let len : ℕ = slice_index c.args.messages.now.lens.now c.args.i in
    let cut : start + len - start ≡ len = omega arith in
    let size : c.digest_len-size.result ≡ g.H.PieceHash.size c.args.hash.now = c.digest_len-size.ensures.value in
    let room = row_within (g.H.PieceHash.size c.args.hash.now) (length c.args.messages.now.starts.now) c.args.i
    (length c.args.out.now) c.requires.inside c.requires.room in
    row_written (g.H.PieceHash.digest c.args.hash.now) (g.H.PieceHash.size c.args.hash.now) c.args.messages.now
    c.args.out.now c.put_digest.new.out c.one-row.result c.args.i j room
    (omega (arith, c.digest_len-size.ensures, c.one-row.ensures.whole)) (rw cut at c.one-row.ensures.value)
    (rw size at c.put_digest.ensures.front) (rw size at c.put_digest.ensures.rest) before

pub returns-clause-right : goal.returns-clause-right
returns-clause-right g c = row g c c.args.i (λ other. absurd (other refl))

pub returns-clause-kept : goal.returns-clause-kept
returns-clause-kept g c = λ j before. row g c j (λ other. before)
