use Rattle.sumlist.proofs.Common.{◌≡◌, ◌+◌, ◌++◌, length, take, drop}
use Rattle.source.specs.Pumped.{joined}
use Rattle.sumlist.proofs.filling.put_pieces.Given as goal

abbrev pub invariant-loop-piece : goal.invariant-loop-piece
invariant-loop-piece l = record {
  sum : l.end + length (joined (drop l.piece-index l.pieces)) ≡ l.at + length (joined l.pieces);
  text : take l.end l.out ++ joined (drop l.piece-index l.pieces) ≡ take l.at l.fn.out ++ joined l.pieces;
}
