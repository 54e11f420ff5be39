use Rattle.sumlist.proofs.Common.{◌≡◌, ◌<◌, ◌≤◌, ◌*◌, ◌-◌, ℕ, decimal}
use Rattle.sumlist.proofs.labels.find_number.Given as goal

abbrev pub invariant-loop-n : goal.invariant-loop-n
invariant-loop-n l = record {
  none : (k : ℕ) → 0 < k → k ≤ l.n → l.digits ≡ decimal (8 * k) → ⊥;
  bound : l.n ≤ l.most;
}

abbrev pub decreases-loop-n : goal.decreases-loop-n
decreases-loop-n l = l.most - l.n
