use Rattle.sumlist.proofs.Common.{Bool, List, arith, false, true, ℕ}
use Rattle.std.specs.Prelude.{IsTrue, MatchBool, ◌↔◌}
use Rattle.std.proofs.Common.{not}
use Rattle.sumlist.specs.Line.{IsSkipped}
use Rattle.sumlist.proofs.checking.has_entry.Goals as goal

-- ---- what the test says
unskipped : (is : Bool) (line : List ℕ) → IsTrue is ↔ IsSkipped line
    → MatchBool (not is) (IsSkipped line → ⊥) (IsSkipped line)
unskipped true line h = grind arith
unskipped false line h = grind arith

-- the line that was kept is the one that was read
pub returns-in-Some : goal.returns-in-Some
returns-in-Some c = λ line kept.
    let same = rw c.in-Some.is at kept in rw same.0 (unskipped c.is_skipped.result _ c.is_skipped.ensures)
