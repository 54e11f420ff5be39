use Rattle.std.proofs.Common.{◌≡◌, ℕ, ◌<◌, List, [], ◌++◌, ◌+◌, ◌*◌, length, take, slice_index_or}
use Rattle.b3.specs.inside.Hasher.{IsSplit}
use Rattle.b3.specs.inside.Runs.{run_cv}
use Rattle.b3.proofs.hasher.Blake3.push_values.Given as goal

abbrev pub invariant-chunks : goal.invariant-chunks
invariant-chunks l = record {
  parameters : l.self.stack.parameters ≡ l.fn.self.stack.parameters;
  closed : l.self.stack.closed ≡ l.fn.self.stack.closed + l.i;
  empty : l.self.chunk.len ≡ 0;
  split : (m y : List ℕ) → IsSplit l.fn.self m → length y ≡ 1024 * l.n
      → ((i : ℕ) → i < l.n
      → slice_index_or l.values i []
      ≡ run_cv l.fn.self.stack.parameters.key l.fn.self.stack.parameters.flags l.fn.self.stack.closed y 0 i)
      → IsSplit l.self (m ++ take (1024 * l.i) y);
}
