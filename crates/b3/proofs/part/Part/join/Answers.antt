use Rattle.std.proofs.Common.{◌≡◌, ℕ, List, suc, ◌%◌, ◌-◌, ◌+◌, ◌*◌, ◌^◌, ◌≤◌, ◌<◌, length, inl, inr, arith, refl}
use Rattle.std.proofs.Common.{sym, ◌∙◌, length-append, pow_pos}
use Rattle.std.proofs.lemmas.Bool.{cases_lt}
use Rattle.std.specs.Prelude.{drop, slice_index}
use Rattle.b3.specs.Parts.{mode_parameters}
use Rattle.std.proofs.Math.Nat.{pow-succ'}
use Rattle.b3.proofs.Joining.{tree_join}
use Rattle.b3.proofs.Powers.{least_power_unique}
use Rattle.b3.proofs.part.Part.join.Goals as goal

positive : (n k : ℕ) → n ≡ k → (n ≡ 0 → ⊥) → 0 < k
positive n k e h = elim (cases_lt 0 k) [ inl lt ↦ lt | inr ge ↦ absurd (h (omega arith)) ]

pub returns-clause-joined : goal.returns-clause-joined
returns-clause-joined c = λ m1 m2 one two.
    let near = c.if-not-is_before.ensures.0 refl in
    let e : ℕ = near.1.0 in
    let len1 : c.args.left.len ≡ length m1 = one.len in
    let len2 : c.args.right.len ≡ length m2 = two.len in
    let full : c.args.left.len ≡ 1024 * 2 ^ e = near.1.1 in
    let few : c.args.right.len ≤ 1024 * 2 ^ e = near.1.4 in
    let next : c.args.right.first_chunk ≡ c.args.left.first_chunk + 2 ^ e = near.1.3 in
    let some = c.args.right.placed.0 in
    let parameters : List ℕ = mode_parameters c.args.left.mode in
    record {
      len = omega (arith, length-append m1 m2);
      node = c.parent-node.ensures
          ∙ rw (
            c.parameters.ensures.key,
            c.parameters.ensures.flags,
            c.chaining_value.ensures,
            c.chaining_value-2.ensures,
            one.node,
            two.node,
            ← near.0,
            next,
          )
          (tree_join (drop 1 parameters) (slice_index parameters 0) c.args.left.first_chunk e m1 m2 (sym len1 ∙ full)
          (positive _ _ len2 (λ none. omega (arith, some none, pow_pos e))) (omega arith));
    }

pub invariant_of-result : goal.invariant_of-result
invariant_of-result c =
    let near = c.if-not-is_before.ensures.0 refl in
    let e : ℕ = near.1.0 in
    let full : c.args.left.len ≡ 1024 * 2 ^ e = near.1.1 in
    let even : c.args.left.first_chunk % (2 * 2 ^ e) ≡ 0 = near.1.2 in
    let next : c.args.right.first_chunk ≡ c.args.left.first_chunk + 2 ^ e = near.1.3 in
    let few : c.args.right.len ≤ 1024 * 2 ^ e = near.1.4 in
    let limit : 1024 * c.args.right.first_chunk + c.args.right.len ≤ 2 ^ 64 - 1 = c.args.right.placed.1 in
    let first = c.args.right.placed.0 in
    let some : 0 < c.args.right.len = positive _ _ refl (λ none. omega (arith, first none, pow_pos e)) in
    let double : 2 ^ suc e ≡ 2 * 2 ^ e = pow-succ' 2 e in
    record {
      placed = (
        λ none. omega arith,
        omega arith,
        λ p least.
            let is : p ≡ 2 * 2 ^ e
            = least_power_unique p (2 ^ suc e) _ least
            (suc e, refl, omega (arith, pow_pos e), omega (arith, pow_pos e)) ∙ double in
            rw is even,
      );
    }
