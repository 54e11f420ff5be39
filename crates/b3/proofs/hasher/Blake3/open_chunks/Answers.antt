use Rattle.std.proofs.Common.{◌≡◌, ℕ, ◌+◌, ◌-◌, ◌*◌, ◌/◌, List, ◌++◌, length, take, drop, refl, sym, ap, ◌∙◌, arith}
use Rattle.std.proofs.Common.{[], Option, length-take-le}
use Rattle.std.specs.Option.{unwrap_or}
use Rattle.std.proofs.lemmas.List.{take_all}
use Rattle.b3.proofs.Folding.{run_chunk}
use Rattle.b3.proofs.Holding.{IsSplit_alike, IsSplit_same}
use Rattle.b3.proofs.Pieces.{take_further}
use Rattle.b3.proofs.Runs.{run_part}
use Rattle.b3.proofs.hasher.Blake3.open_chunks.Goals as goal

pub open_chunk-requires-clause-made : goal.open_chunk-requires-clause-made
open_chunk-requires-clause-made c = λ v is.
    let stack = c.args.self.now.stack in
    let bytes : List ℕ = c.args.bytes.now in
    let n : ℕ = length bytes / 1024 - 1 in
    let one : length bytes - 1024 * n ≡ 1024 = omega arith in
    let last : take (length bytes - 1024 * n) (drop (1024 * n) bytes) ≡ take 1024 (drop (1024 * n) bytes)
    = ap (λ (k : ℕ). take k (drop (1024 * n) bytes)) one in
    rw (c.push_values.ensures.parameters, c.push_values.ensures.closed, last) (
      c.chunk_values.ensures.before n (omega arith) (omega arith),
      sym (ap (λ (o : Option (List ℕ)). unwrap_or o []) is)
          ∙ c.chunk_values.ensures.values n (omega arith) (omega arith)
          ∙ run_chunk stack.parameters.key stack.parameters.flags stack.closed bytes n (omega arith),
    )

pub returns : goal.returns
returns c =
    record {
      parameters = c.open_chunk.ensures.parameters ∙ c.push_values.ensures.parameters;
      closed = omega arith;
      chunk = c.open_chunk.ensures.chunk;
      split = λ m held.
          let bytes : List ℕ = c.args.bytes.now in
          let n : ℕ = length bytes / 1024 - 1 in
          let most : List ℕ = take (1024 * n) bytes in
          let rest : List ℕ = drop (1024 * n) bytes in
          let size : length most ≡ 1024 * n = length-take-le (1024 * n) bytes (omega arith) in
          let before = c.push_values.ensures.split m most
          (IsSplit_alike c.args.self.now _ m refl refl held) size
          (λ i h. c.chunk_values.ensures.values i (omega arith) (omega arith)
          ∙ sym (run_part c.args.self.now.stack.parameters.key c.args.self.now.stack.parameters.flags
          c.args.self.now.stack.closed n bytes 0 i (omega arith)
          (omega arith))) in
          let one : length bytes - 1024 * n ≡ 1024 = omega arith in
          let last : take (length bytes - 1024 * n) rest ≡ take 1024 rest = ap (λ (k : ℕ). take k rest) one in
          let all : m ++ bytes ≡ (m ++ most) ++ take 1024 rest
          = ap (λ (ys : List ℕ). m ++ ys) (sym (take_all (1024 * n + 1024) bytes (omega arith)))
          ∙ take_further m bytes (1024 * n) 1024 in
          IsSplit_same _ (m ++ bytes) _ (all ∙ ap (λ (ys : List ℕ). (m ++ most) ++ ys) (sym last))
          (c.open_chunk.ensures.split (m ++ most) before
          (rw (c.push_values.ensures.parameters, c.push_values.ensures.closed, last)
          (c.chunk_values.ensures.before n (omega arith) (omega arith))));
    }
