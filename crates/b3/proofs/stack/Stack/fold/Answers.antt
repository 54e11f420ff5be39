use Rattle.std.proofs.Common.{◌≡◌, ℕ, List, ◌+◌, ◌-◌, ◌*◌, ◌<◌, [], length, drop, refl, sym, ap, ◌∙◌, inl, inr, arith}
use Rattle.std.proofs.Common.{count_ones}
use Rattle.std.proofs.lemmas.Bool.{cases_lt}
use Rattle.std.proofs.lemmas.List.{take_all}
use Rattle.std.proofs.lemmas.Nat.{zero_from_ones}
use Rattle.b3.specs.Node.{Node}
use Rattle.b3.specs.Tree.{tree}
use Rattle.b3.proofs.Folding.{root_over}
use Rattle.b3.proofs.Holding.{root_over_more}
use Rattle.b3.proofs.Joining.{row_root}
use Rattle.b3.proofs.stack.Stack.fold.Goals as goal

positive : (n k : ℕ) → (n ≡ 0 → k ≡ 0) → 0 < k → 0 < n
positive n k none some = elim (cases_lt 0 n) [ inl lt ↦ lt | inr ge ↦ absurd (omega (arith, none (omega arith))) ]

some_items : (items stack : List (List ℕ)) (k : ℕ) → items ≡ stack → length stack ≡ count_ones k → 0 < k
    → 0 < length items
some_items items stack k same is some =
    positive _ k (λ none. zero_from_ones k (sym is ∙ sym (ap length same) ∙ none)) some

pub overflow_sub-left : goal.overflow_sub-left
overflow_sub-left c =
    let self = c.args.self.now in
    omega (arith, some_items _ _ self.closed c.as_slice-values.ensures.value self.one_bits c.requires)

pub bounds-values-left : goal.bounds-values-left
bounds-values-left c =
    let self = c.args.self.now in
    omega (arith, some_items _ _ self.closed c.as_slice-values.ensures.value self.one_bits c.requires)

pub loop-left-init : goal.loop-left-init
loop-left-init c =
    let self = c.args.self.now in
    let key : List ℕ = self.parameters.key in
    let flags : ℕ = self.parameters.flags in
    let items : List (List ℕ) = c.as_slice-values.result.now in
    let n : ℕ = length items in
    let some : 0 < n = some_items _ _ self.closed c.as_slice-values.ensures.value self.one_bits c.requires in
    let whole : n - 1 + 1 ≡ n = omega arith in
    record {
      within = omega arith;
      root = λ first m held placed last.
          let rest : ℕ = length m - 1024 * self.closed in
          let used : 0 < rest = positive rest self.closed placed.0 c.requires in
          let node : Node = tree key flags (first + self.closed) (drop (1024 * self.closed) m) in
          let over : root_over key flags items node ≡ tree key flags first m
          = rw c.as_slice-values.ensures.value
          (row_root key flags first m self.values.items self.closed rest placed used (omega arith) held) in
          rw (c.parent-node.ensures, last)
          (root_over_more key flags items (n - 1) _ [] node _ (omega arith) refl
          (rw (whole, take_all n items (omega arith)) over));
    }

pub loop-left-preserved : goal.loop-left-preserved
loop-left-preserved c =
    let self = c.args.self.now in
    let items : List (List ℕ) = c.as_slice-values.result.now in
    let left : ℕ = c.loop-left.left in
    record {
      within = omega arith;
      root = λ first m held placed last.
          let next : left ≡ left - 1 + 1 = omega arith in
          rw (c.parent-node-in-loop-left.ensures, c.chaining_value.ensures)
          (root_over_more self.parameters.key self.parameters.flags items (left - 1) _ [] c.loop-left.node _
          (omega arith)
          refl (rw next at (c.loop-left.invariant.root first m held placed last)));
    }

pub returns : goal.returns
unfolding root_over
returns c = λ first m held placed last.
    let none : c.loop-left.left ≡ 0 = omega arith in
    rw none at (c.loop-left.invariant.root first m held placed last)
