use Rattle.std.proofs.Common.{◌≡◌, ℕ, List, ◌++◌, ◌+◌, ◌-◌, ◌*◌, ◌^◌, ◌≤◌, take}
use Rattle.b3.specs.inside.Hasher.{IsSplit}
use Rattle.b3.proofs.hasher.Blake3.open_run.Given as goal

abbrev pub invariant-lefts : goal.invariant-lefts
invariant-lefts l = record {
  below : l.left ≤ l.level + 3;
  parameters : l.self.stack.parameters ≡ l.fn.self.stack.parameters;
  closed : l.self.stack.closed + 2 ^ l.left ≡ l.fn.self.stack.closed + 8 * 2 ^ l.level;
  empty : l.self.chunk.len ≡ 0;
  split : (m : List ℕ) → IsSplit l.fn.self m
      → IsSplit l.self (m ++ take (1024 * (8 * 2 ^ l.level - 2 ^ l.left)) l.bytes);
}

abbrev pub decreases-lefts : goal.decreases-lefts
decreases-lefts l = l.left
