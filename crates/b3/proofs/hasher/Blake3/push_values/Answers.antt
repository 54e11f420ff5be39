use Rattle.std.proofs.Common.{◌≡◌, ℕ, ◌+◌, ◌*◌, List, ◌++◌, length, take, drop, ◌∙◌, arith, length-take-le, length-drop}
use Rattle.std.proofs.lemmas.List.{take_all}
use Rattle.b3.proofs.Pieces.{take_further}
use Rattle.b3.proofs.Runs.{run_at}
use Rattle.b3.proofs.hasher.Blake3.push_values.Goals as goal

pub chunks-preserved : goal.chunks-preserved
chunks-preserved c =
    let i : ℕ = c.chunks.i in
    let step : 1024 * (i + 1) ≡ 1024 * i + 1024 = omega arith in
    record {
      parameters = c.push_value.ensures.parameters ∙ c.chunks.invariant.parameters;
      closed = omega arith;
      empty = c.push_value.ensures.chunk;
      split = λ m y held size values.
          let chunk : List ℕ = take 1024 (drop (1024 * i) y) in
          let whole : length chunk ≡ 1024
          = length-take-le 1024 (drop (1024 * i) y) (omega (arith, length-drop (1024 * i) y)) in
          let value = values i (omega arith)
          ∙ run_at c.args.self.now.stack.parameters.key c.args.self.now.stack.parameters.flags
          c.args.self.now.stack.closed y 0 i c.chunks.self.stack.closed
          c.chunks.invariant.closed in
          rw (step, take_further m y (1024 * i) 1024)
          (c.push_value.ensures.split (m ++ take (1024 * i) y) chunk
          (c.chunks.invariant.split m y held size values) whole
          (rw c.chunks.invariant.parameters value));
    }

pub returns-clause-split : goal.returns-clause-split
returns-clause-split c = λ m y held size values.
    let done : c.chunks.i ≡ c.args.n = omega arith in
    rw (take_all (1024 * c.chunks.i) y (omega arith)) at (c.chunks.invariant.split m y held size values)
