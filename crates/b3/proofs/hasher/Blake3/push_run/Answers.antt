use Rattle.std.proofs.Common.{refl, ◌∙◌, ◌+◌, ◌*◌, ◌%◌, ◌^◌, ℕ, length, arith, ◌≡◌, ap}
use Rattle.b3.proofs.Holding.{eight_pow, IsSplit_alike}
use Rattle.b3.proofs.Runs.{run_whole}
use Rattle.b3.proofs.hasher.Blake3.push_run.Goals as goal

pub push_value-requires-clause-aligned : goal.push_value-requires-clause-aligned
push_value-requires-clause-aligned c
    = ap (λ (n : ℕ). c.args.self.now.stack.closed % n) (eight_pow c.args.level) ∙ c.requires.aligned

pub push_value-requires-clause-more : goal.push_value-requires-clause-more
push_value-requires-clause-more c = omega (arith, eight_pow c.args.level)

pub returns : goal.returns
returns c =
    let stack = c.args.self.now.stack in
    let power = eight_pow c.args.level in
    let size : length c.args.bytes.now ≡ 1024 * 2 ^ (c.args.level + 3) = omega (arith, power) in
    record {
      parameters = c.push_value.ensures.parameters;
      closed = omega (arith, power);
      chunk = c.push_value.ensures.chunk;
      split = λ m held.
          c.push_value.ensures.split m c.args.bytes.now (IsSplit_alike c.args.self.now _ m refl refl held) size
          (c.subtree_of-value.ensures
          ∙ run_whole stack.parameters.key stack.parameters.flags stack.closed c.args.bytes.now (c.args.level + 3)
          size);
    }
