use Rattle.std.proofs.Common.{◌≡◌, ℕ, ◌+◌, ◌-◌, ◌*◌, ◌/◌, ◌^◌, ◌≤◌, List, ◌++◌, length, take, drop, ap, ◌∙◌}
use Rattle.std.proofs.Common.{arith, length-append, length-drop, pow_pos}
use Rattle.std.proofs.lemmas.List.{drop_at, drop-append-le, take-append-le, take_all}
use Rattle.b3.proofs.Holding.{HoldsRun_more}
use Rattle.b3.proofs.Joining.{whole_place, rest_placed}
use Rattle.b3.proofs.row.Row.close.Goals as goal

pub push-requires-clause-power : goal.push-requires-clause-power
push-requires-clause-power c =
    let len : c.args.self.now.len ≡ 1024 * 2 ^ c.requires.1.0 = c.requires.1.1 in
    (c.requires.1.0, omega arith)

pub push-requires-clause-aligned : goal.push-requires-clause-aligned
push-requires-clause-aligned c =
    let self = c.args.self.now in
    let j : ℕ = c.requires.1.0 in
    let len : self.len ≡ 1024 * 2 ^ j = c.requires.1.1 in
    let size : self.len / 1024 ≡ 2 ^ j = omega arith in
    rw size (whole_place self.stack.closed self.len j len self.last)

pub push-requires-clause-bound : goal.push-requires-clause-bound
push-requires-clause-bound c =
    let self = c.args.self.now in
    let limit : 1024 * self.stack.closed + self.len ≤ 2 ^ 64 - 1 = self.last.1 in
    let len : self.len ≡ 1024 * 2 ^ c.requires.1.0 = c.requires.1.1 in
    omega arith

pub invariant_of-self : goal.invariant_of-self
invariant_of-self c =
    let self = c.args.self.now in
    let part = c.args.part.now in
    let j : ℕ = c.requires.1.0 in
    let closed : ℕ = c.push.new.self.closed in
    let len : self.len ≡ 1024 * 2 ^ j = c.requires.1.1 in
    let here : 1024 * closed ≡ 1024 * self.stack.closed + self.len = omega (arith, c.push.ensures.closed) in
    let begins : 1024 * part.first_chunk ≡ 1024 * self.first_chunk + (1024 * self.stack.closed + self.len)
    = c.requires.0 in
    let next : part.first_chunk ≡ self.first_chunk + closed = omega arith in
    let total : 1024 * self.stack.closed + self.len + part.len ≡ 1024 * closed + part.len = omega arith in
    record {
      placed = rw total at c.requires.2;
      last = rest_placed self.first_chunk closed part.len (omega (arith, pow_pos j)) (rw total at c.requires.2)
          (rw next at part.placed);
    }

pub returns-clause-holds : goal.returns-clause-holds
returns-clause-holds c = λ m x held is_value.
    let self = c.args.self.now in
    let part = c.args.part.now in
    let j : ℕ = c.requires.1.0 in
    let k : ℕ = self.stack.closed in
    let closed : ℕ = c.push.new.self.closed in
    let chunks : ℕ = self.len / 1024 in
    let len : self.len ≡ 1024 * 2 ^ j = c.requires.1.1 in
    let here : 1024 * closed ≡ 1024 * k + self.len = omega (arith, c.push.ensures.closed) in
    let begins : 1024 * part.first_chunk ≡ 1024 * self.first_chunk + (1024 * k + self.len) = c.requires.0 in
    let next : part.first_chunk ≡ self.first_chunk + closed = omega arith in
    let total : 1024 * k + self.len ≡ length m = held.len in
    let added : part.len ≡ length x = is_value.len in
    let both : length (m ++ x) ≡ length m + length x = length-append m x in
    let rest : length (drop (1024 * k) m) ≡ length m - 1024 * k = length-drop (1024 * k) m in
    let behind : drop (1024 * closed) (m ++ x) ≡ x = drop_at m x (1024 * closed) (omega arith) in
    let bytes : take (1024 * chunks) (drop (1024 * k) (m ++ x)) ≡ drop (1024 * k) m
    = ap (λ (y : List ℕ). take (1024 * chunks) y) (drop-append-le (1024 * k) m x (omega arith))
    ∙ take-append-le (1024 * chunks) (drop (1024 * k) m) x (omega arith)
    ∙ take_all (1024 * chunks) (drop (1024 * k) m) (omega arith) in
    record {
      len = omega arith;
      stack = c.push.ensures.holds self.first_chunk (m ++ x)
          (HoldsRun_more self.stack self.first_chunk m x (omega arith) held.stack) (omega arith) (rw bytes held.value);
      value = rw (behind, c.push.ensures.parameters, ← next) is_value.value;
    }
