use Rattle.sumlist.proofs.Common.{◌≡◌, ◌+◌, ◌++◌, length, take, escaped}
use Rattle.sumlist.proofs.filling.put_escaped.Given as goal

abbrev pub invariant-loop-first : goal.invariant-loop-first
invariant-loop-first l = record {
  sum : l.end + length (escaped l.rest) ≡ l.at + length (escaped l.name);
  text : take l.end l.out ++ escaped l.rest ≡ take l.at l.fn.out ++ escaped l.name;
}

abbrev pub decreases-loop-first : goal.decreases-loop-first
decreases-loop-first l = length l.rest
