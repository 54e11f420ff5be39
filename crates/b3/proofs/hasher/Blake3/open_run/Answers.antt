use Rattle.std.proofs.Common.{◌≡◌, ℕ, ◌+◌, ◌-◌, ◌*◌, ◌^◌, ◌<◌, ◌≤◌, List, ◌++◌, length, take, drop, refl, sym, ap}
use Rattle.std.proofs.Common.{ap₂, ◌∙◌, arith, append-nil, length-take-le, length-drop, pow_pos}
use Rattle.std.proofs.lemmas.List.{take_all}
use Rattle.b3.specs.inside.Hasher.{IsSplit}
use Rattle.b3.proofs.Holding.{IsSplit_same, IsSplit_alike, eight_pow, spine_aligned}
use Rattle.b3.proofs.Pieces.{take_further}
use Rattle.b3.proofs.Runs.{doubled, run_at, two_below}
use Rattle.b3.proofs.hasher.Blake3.open_run.Goals as goal

pub lefts-init : goal.lefts-init
lefts-init c =
    let power : 2 ^ (c.args.level + 3) ≡ 8 * 2 ^ c.args.level = eight_pow c.args.level in
    let none : 1024 * (8 * 2 ^ c.args.level - 2 ^ (c.args.level + 3)) ≡ 0 = omega (arith, power) in
    record {
      below = omega arith;
      parameters = refl;
      closed = omega (arith, power);
      empty = c.requires.empty;
      split = λ m held.
          IsSplit_same _ _ m (ap (λ (n : ℕ). m ++ take n c.args.bytes.now) none ∙ append-nil m)
          (IsSplit_alike c.args.self.now _ m refl refl held);
    }

pub push_value-requires-clause-aligned : goal.push_value-requires-clause-aligned
push_value-requires-clause-aligned c =
    let half = doubled c.lefts.left (omega arith) in
    spine_aligned c.args.self.now.stack.closed c.args.level (c.lefts.left - 1) c.lefts.self.stack.closed
    c.requires.aligned
    (omega (arith, c.lefts.invariant.below)) (omega (arith, half, c.lefts.invariant.closed))

pub lefts-preserved : goal.lefts-preserved
lefts-preserved c =
    let j : ℕ = c.lefts.left - 1 in
    let half = doubled c.lefts.left (omega arith) in
    let v : ℕ = 8 * 2 ^ c.args.level in
    let bytes : List ℕ = c.args.bytes.now in
    let below : j < c.args.level + 3 = omega (arith, c.lefts.invariant.below) in
    let small : 2 * 2 ^ j ≤ v = omega (arith, two_below j (c.args.level + 3) below, eight_pow c.args.level) in
    let at : ℕ = v - 2 * 2 ^ j in
    let n : ℕ = 1024 * 2 ^ j in
    let y : List ℕ = take n (drop (1024 * at) bytes) in
    let size : length y ≡ n
    = length-take-le n (drop (1024 * at) bytes) (omega (arith, length-drop (1024 * at) bytes, c.requires.length)) in
    let before : 1024 * (v - 2 ^ c.lefts.left) ≡ 1024 * at = omega (arith, half) in
    let after : 1024 * (v - 2 ^ j) ≡ 1024 * at + n = omega arith in
    let place : c.lefts.self.stack.closed ≡ c.args.self.now.stack.closed + at
    = omega (arith, half, c.lefts.invariant.closed) in
    let value = c.open_lefts.ensures.lefts j below
    ∙ run_at c.args.self.now.stack.parameters.key c.args.self.now.stack.parameters.flags c.args.self.now.stack.closed
    bytes j at c.lefts.self.stack.closed place in
    record {
      below = omega (arith, c.lefts.invariant.below);
      parameters = c.push_value.ensures.parameters ∙ c.lefts.invariant.parameters;
      closed = omega (arith, half, c.lefts.invariant.closed, c.push_value.ensures.closed);
      empty = c.push_value.ensures.chunk;
      split = λ m held.
          IsSplit_same _ _ (m ++ take (1024 * at) bytes ++ y)
          (ap (λ (k : ℕ). m ++ take k bytes) after ∙ take_further m bytes (1024 * at) n)
          (c.push_value.ensures.split (m ++ take (1024 * at) bytes) y
          (rw before at (c.lefts.invariant.split m held)) size
          (rw c.lefts.invariant.parameters value));
    }

pub returns : goal.returns
returns c =
    let some = pow_pos c.args.level in
    let done : c.lefts.left ≡ 0 = omega arith in
    let one : 2 ^ c.lefts.left ≡ 1 = ap (λ (k : ℕ). 2 ^ k) done in
    record {
      parameters = c.open_chunk.ensures.parameters ∙ c.lefts.invariant.parameters;
      closed = omega (arith, some, one, c.lefts.invariant.closed);
      chunk = c.open_chunk.ensures.chunk;
      split = λ m held.
          let bytes : List ℕ = c.args.bytes.now in
          let n : ℕ = 8 * 2 ^ c.args.level - 1 in
          let most : List ℕ = take (1024 * n) bytes in
          let before : IsSplit c.lefts.self (m ++ most) = rw one at (c.lefts.invariant.split m held) in
          let closed : c.lefts.self.stack.closed ≡ c.args.self.now.stack.closed + n
          = omega (arith, one, some, c.lefts.invariant.closed) in
          let all : m ++ bytes ≡ (m ++ most) ++ take 1024 (drop (1024 * n) bytes)
          = ap (λ (ys : List ℕ). m ++ ys)
          (sym (take_all (1024 * n + 1024) bytes (omega (arith, some, c.requires.length))))
          ∙ take_further m bytes (1024 * n) 1024 in
          let start : length bytes - 1024 ≡ 1024 * n = omega (arith, some, c.requires.length) in
          let size : length bytes - (length bytes - 1024) ≡ 1024 = omega (arith, some, c.requires.length) in
          let last : take (length bytes - (length bytes - 1024)) (drop (length bytes - 1024) bytes)
          ≡ take 1024 (drop (1024 * n) bytes) = ap₂ (λ (k i : ℕ). take k (drop i bytes)) size start in
          IsSplit_same _ (m ++ bytes) _ (all ∙ ap (λ (ys : List ℕ). (m ++ most) ++ ys) (sym last))
          (c.open_chunk.ensures.split (m ++ most) before
          (rw (c.lefts.invariant.parameters, closed, last) c.open_lefts.ensures.before));
    }
