use Rattle.std.proofs.Common.{◌≡◌, ℕ, length}
use Rattle.pieces.specs.inside.Rows.{AreWritten, IsRow}
use Rattle.pieces.proofs.rows.write_group.Given as goal

abbrev pub invariant-rows : goal.invariant-rows
invariant-rows g l = record {
  length : length l.out ≡ length l.fn.out;
  right : AreWritten (g.H.PieceHash.digest l.hash) (g.H.PieceHash.size l.hash) l.messages l.out l.first
      l.written;
  kept : (i : ℕ) → IsRow (g.H.PieceHash.digest l.hash) (g.H.PieceHash.size l.hash) l.messages l.fn.out i
      → IsRow (g.H.PieceHash.digest l.hash) (g.H.PieceHash.size l.hash) l.messages l.out i;
}
