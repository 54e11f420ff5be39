use Rattle.std.proofs.Common.{◌≡◌, ℕ, ◌+◌, ◌-◌, ◌*◌, ◌^◌, ◌<◌, ◌≤◌}
use Rattle.command.proofs.Starting.{Counting}
use Rattle.command.proofs.cutting.part_count.Given as goal

abbrev pub invariant-halves : goal.invariant-halves
invariant-halves g l = record {
  ordered : l.least ≤ l.most;
  few : l.most ≤ 2 ^ 54;
  within : (i : ℕ) → i < l.most → l.chunks * i < 2 ^ 54;
  kept : g.T.Tree.files l.tree ≡ g.T.Tree.files l.initial.tree;
  counting : Counting l.chunks l.name (g.T.Tree.files l.initial.tree) l.least l.most
      (g.T.Tree.failure_count l.initial.tree) (g.T.Tree.failure_count l.tree);
  opens : (k : ℕ) × (l.most - l.least < 2 ^ k) × (g.T.Tree.opens l.tree + k ≤ g.T.Tree.opens l.initial.tree + 55);
}

abbrev pub decreases-halves : goal.decreases-halves
decreases-halves g l = l.most - l.least
