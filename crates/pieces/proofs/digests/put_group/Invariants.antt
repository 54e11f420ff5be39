use Rattle.std.proofs.Common.{◌≡◌, ◌+◌, ◌*◌, length, take}
use Rattle.pieces.specs.Pieces.{first_digests}
use Rattle.pieces.proofs.digests.put_group.Given as goal

abbrev pub invariant-rows : goal.invariant-rows
invariant-rows g l = record {
  length : length l.out ≡ length l.fn.out;
  value : take (l.size * (l.done + l.i)) l.out
      ≡ first_digests (g.H.PieceHash.digest l.hash) l.piece_len l.bytes (l.done + l.i);
}
