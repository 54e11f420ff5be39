use Rattle.std.proofs.Common.{◌≡◌, ℕ, List, ◌+◌, ◌-◌, ◌*◌, ◌≤◌, length, take, drop}
use Rattle.b3.specs.Node.{cv}
use Rattle.b3.specs.Parts.{IsPlacedAt}
use Rattle.b3.specs.Tree.{tree}
use Rattle.b3.specs.inside.Held.{HoldsRun}
use Rattle.b3.proofs.Folding.{root_over}
use Rattle.b3.proofs.stack.Stack.fold.Given as goal

abbrev pub invariant-loop-left : goal.invariant-loop-left
invariant-loop-left l = record {
  within : l.left ≤ length l.values;
  root : (c : ℕ) (m : List ℕ) → HoldsRun l.self c m
      → IsPlacedAt l.self.closed (length m - 1024 * l.self.closed)
      → l.last ≡ cv (tree l.self.parameters.key l.self.parameters.flags (c + l.self.closed)
      (drop (1024 * l.self.closed) m))
      → root_over l.self.parameters.key l.self.parameters.flags (take l.left l.values) l.node
      ≡ tree l.self.parameters.key l.self.parameters.flags c m;
}

abbrev pub decreases-loop-left : goal.decreases-loop-left
decreases-loop-left l = l.left
