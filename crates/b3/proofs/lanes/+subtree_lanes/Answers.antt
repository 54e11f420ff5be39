use Rattle.std.proofs.Common.{◌≡◌, ℕ, suc, ◌-◌, ◌/◌, List, length, refl, sym, ap, ◌∙◌, arith, length-take-le}
use Rattle.std.proofs.Common.{length-drop}
use Rattle.std.proofs.lemmas.List.{take_rest}
use Rattle.b3.proofs.Runs.{doubled, level_zero, parent_values}
use Rattle.b3.proofs.lanes.+subtree_lanes.Goals as goal

pub returns-then-level-eq0 : goal.returns-then-level-eq0
returns-then-level-eq0 t c = λ i h.
    let none : c.args.level ≡ 0 = omega arith in
    let len : length c.args.bytes.now ≡ 8192 = rw none at c.requires.length in
    c.chunk_lanes.ensures.values i h (omega arith)
    ∙ sym (level_zero _ _ _ _ _ i none)

pub subtree_lanes-left-requires : goal.subtree_lanes-left-requires
subtree_lanes-left-requires t c =
    let bytes : List ℕ = c.args.bytes.now in
    let double = doubled c.args.level (omega arith) in (
      omega arith,
      (
        length-take-le (length bytes / 2) bytes (omega arith)
            ∙ omega (arith, double),
        omega (arith, double),
      ),
    )

pub subtree_lanes-right-requires : goal.subtree_lanes-right-requires
subtree_lanes-right-requires t c =
    let bytes : List ℕ = c.args.bytes.now in
    let double = doubled c.args.level (omega arith) in (
      omega arith,
      (
        ap length (take_rest bytes (length bytes / 2)) ∙ length-drop (length bytes / 2) bytes
            ∙ omega (arith, double),
        omega (arith, double),
      ),
    )

pub returns : goal.returns
returns t c =
    let up : c.args.level ≡ suc (c.args.level - 1) = omega arith in
    parent_values c.args.parameters.now.key c.args.parameters.now.flags c.args.first c.args.bytes.now
    (c.args.level - 1) c.args.level _ _ _ _ _ up c.requires.length refl refl
    c.subtree_lanes-left.ensures c.subtree_lanes-right.ensures c.parent_lanes.ensures.left c.parent_lanes.ensures.right
