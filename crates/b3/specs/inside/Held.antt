-- What a stack stands for.
use Rattle.std.specs.Prelude.{◌≡◌, ℕ, ◌+◌, ◌*◌, ◌≤◌, List, take, drop, length}
use Rattle.b3.specs.Node.{cv}
use Rattle.b3.specs.Tree.{tree}
use Rattle.b3.specs.inside.Runs.{run_cv}
use Rattle.b3.specs.inside.Subtrees.{subtrees}
use Rattle.b3.specs.declared.stack.Stack.{Stack}

-- s has the chaining values of the subtrees of the first chunks of the run m, whose first chunk has
-- the number c
abbrev pub HoldsRun : Stack → ℕ → List ℕ → Type 0
HoldsRun s c m = s.values.items ≡ subtrees (run_cv s.parameters.key s.parameters.flags c m) 54 0 s.closed

-- new has closed v chunks more than old, which have the chaining value pushed
abbrev pub IsPushedOn : Stack → ℕ → List ℕ → Stack → Type 0
IsPushedOn old v pushed new = (c : ℕ) (m : List ℕ) → HoldsRun old c m → 1024 * new.closed ≤ length m
    → pushed ≡ cv (tree old.parameters.key old.parameters.flags (c + old.closed)
    (take (1024 * v) (drop (1024 * old.closed) m)))
    → HoldsRun new c m
