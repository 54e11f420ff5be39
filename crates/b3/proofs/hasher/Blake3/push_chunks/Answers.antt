use Rattle.std.proofs.Common.{refl, arith}
use Rattle.b3.proofs.Holding.{IsSplit_alike}
use Rattle.b3.proofs.hasher.Blake3.push_chunks.Goals as goal

pub returns : goal.returns
returns c = record {
  parameters = c.push_values.ensures.parameters;
  closed = omega arith;
  chunk = c.push_values.ensures.chunk;
  split = λ m held.
      c.push_values.ensures.split m c.args.bytes.now (IsSplit_alike c.args.self.now _ m refl refl held) (omega arith)
      (λ i h. c.chunk_values.ensures.values i (omega arith) (omega arith));
}
