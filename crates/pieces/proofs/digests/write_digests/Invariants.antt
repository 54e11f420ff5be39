use Rattle.std.proofs.Common.{◌≡◌, ◌≤◌, ◌-◌, ◌*◌, length, take}
use Rattle.pieces.specs.Pieces.{first_digests}
use Rattle.pieces.proofs.digests.write_digests.Given as goal

abbrev pub invariant-groups : goal.invariant-groups
invariant-groups g l = record {
  counted : l.done ≤ l.whole;
  length : length l.out ≡ l.size * l.total;
  value : take (l.size * l.done) l.out ≡ first_digests (g.H.PieceHash.digest l.hash) l.piece_len l.bytes l.done;
}

abbrev pub decreases-groups : goal.decreases-groups
decreases-groups g l = l.whole - l.done

abbrev pub invariant-rest : goal.invariant-rest
invariant-rest g l = record {
  counted : l.done ≤ l.total;
  length : length l.out ≡ l.size * l.total;
  value : take (l.size * l.done) l.out ≡ first_digests (g.H.PieceHash.digest l.hash) l.piece_len l.bytes l.done;
}

abbrev pub decreases-rest : goal.decreases-rest
decreases-rest g l = l.total - l.done
