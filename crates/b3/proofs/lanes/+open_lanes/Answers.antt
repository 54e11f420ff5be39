use Rattle.std.proofs.Common.{◌≡◌, ℕ, suc, ◌-◌, ◌/◌, ◌^◌, List, length, refl, sym, ap, ◌∙◌, arith, pow_pos}
use Rattle.std.proofs.Common.{length-take-le, length-drop}
use Rattle.std.proofs.lemmas.List.{take_rest}
use Rattle.b3.proofs.Runs.{doubled, level_zero, parent_values, lefts_more, last_second}
use Rattle.b3.proofs.lanes.+open_lanes.Goals as goal

pub returns-then-level-eq0-clause-values : goal.returns-then-level-eq0-clause-values
returns-then-level-eq0-clause-values t c = λ i h.
    let none : c.args.level ≡ 0 = omega arith in
    let len : length c.args.bytes.now ≡ 8192 = rw none at c.requires.length in
    c.chunk_lanes.ensures.values i h (omega arith)
    ∙ sym (level_zero _ _ _ _ _ i none)

pub returns-then-level-eq0-clause-before : goal.returns-then-level-eq0-clause-before
returns-then-level-eq0-clause-before t c =
    let none : c.args.level ≡ 0 = omega arith in
    let len : length c.args.bytes.now ≡ 8192 = rw none at c.requires.length in
    rw none (c.chunk_lanes.ensures.before 7 (omega arith) (omega arith))

pub subtree_lanes-left-requires-clause-length : goal.subtree_lanes-left-requires-clause-length
subtree_lanes-left-requires-clause-length t c =
    let bytes : List ℕ = c.args.bytes.now in
    let double = doubled c.args.level (omega arith) in
    length-take-le (length bytes / 2) bytes (omega arith) ∙ omega (arith, double)

pub subtree_lanes-left-requires-clause-numbers : goal.subtree_lanes-left-requires-clause-numbers
subtree_lanes-left-requires-clause-numbers t c =
    let double = doubled c.args.level (omega arith) in
    omega (arith, double)

pub open_lanes-right-requires : goal.open_lanes-right-requires
open_lanes-right-requires t c =
    let bytes : List ℕ = c.args.bytes.now in
    let double = doubled c.args.level (omega arith) in (
      omega arith,
      (
        ap length (take_rest bytes (length bytes / 2)) ∙ length-drop (length bytes / 2) bytes
            ∙ omega (arith, double),
        (omega (arith, double), omega arith),
      ),
    )

pub returns-clause-values : goal.returns-clause-values
returns-clause-values t c =
    let up : c.args.level ≡ suc (c.args.level - 1) = omega arith in
    parent_values c.args.parameters.now.key c.args.parameters.now.flags c.args.first c.args.bytes.now
    (c.args.level - 1) c.args.level _ _ _ _ _ up c.requires.length refl refl
    c.subtree_lanes-left.ensures c.open_lanes-right.ensures.values
    c.parent_lanes.ensures.left c.parent_lanes.ensures.right

pub returns-clause-lefts : goal.returns-clause-lefts
returns-clause-lefts t c =
    let up : c.args.level ≡ suc (c.args.level - 1) = omega arith in
    lefts_more c.args.parameters.now.key c.args.parameters.now.flags c.args.first c.args.bytes.now
    (c.args.level - 1) c.args.level _ _ _ _ up c.requires.length refl refl (omega arith)
    _ (c.lane_rows.ensures 6 (omega arith)) c.open_lanes-right.ensures.values c.open_lanes-right.ensures.lefts

pub returns-clause-before : goal.returns-clause-before
returns-clause-before t c =
    let p : ℕ = 2 ^ (c.args.level - 1) in
    let double = doubled c.args.level (omega arith) in
    c.open_lanes-right.ensures.before
    ∙ last_second _ _ _ _ p (length c.args.bytes.now / 2) _ (2 ^ c.args.level)
    (omega (arith, double)) refl (pow_pos (c.args.level - 1)) double
