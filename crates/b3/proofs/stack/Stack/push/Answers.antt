use Rattle.std.proofs.Common.{◌≡◌, ℕ, ◌^◌, sym, ◌∙◌, arith, pow_pos}
use Rattle.b3.specs.inside.Runs.{run_cv}
use Rattle.b3.proofs.Holding.{HoldsRun_push, ones-lt, ones_subtrees}
use Rattle.b3.proofs.stack.Stack.push.Goals as goal

pub push_subtree-requires-clause-one_bits : goal.push_subtree-requires-clause-one_bits
push_subtree-requires-clause-one_bits c =
    let e : ℕ = c.requires.power.0 in
    let is : c.args.chunks ≡ 2 ^ e = c.requires.power.1 in
    rw is (c.args.self.now.one_bits ∙ (ones_subtrees e c.args.self.now.closed (rw is at c.requires.aligned)).0)

pub push_subtree-requires-clause-room : goal.push_subtree-requires-clause-room
push_subtree-requires-clause-room c =
    let e : ℕ = c.requires.power.0 in
    let is : c.args.chunks ≡ 2 ^ e = c.requires.power.1 in
    omega (arith, ones-lt 54 c.args.self.now.closed (omega (arith, is, pow_pos e)), c.args.self.now.one_bits)

pub invariant_of-self : goal.invariant_of-self
invariant_of-self c =
    let e : ℕ = c.requires.power.0 in
    let is : c.args.chunks ≡ 2 ^ e = c.requires.power.1 in
    record {
      one_bits = c.push_subtree.ensures.one_bits
          ∙ rw is (sym (ones_subtrees e c.args.self.now.closed (rw is at c.requires.aligned)).1);
    }

pub returns-clause-holds : goal.returns-clause-holds
unfolding run_cv
returns-clause-holds c = λ first m held within last.
    let e : ℕ = c.requires.power.0 in
    let is : c.args.chunks ≡ 2 ^ e = c.requires.power.1 in
    rw is (HoldsRun_push c.args.self.now first e m c.args.value _ (rw is at c.requires.aligned)
    (rw is at c.requires.bound) (omega (arith, is, within)) held (rw is at last)
    (rw is at c.push_subtree.ensures.subtrees))
