use Rattle.std.proofs.Common.{ap, arith, refl, ◌∙◌}
use Rattle.sha2.specs.Sha256.{rounds, schedule}
use Rattle.sha_blocks.proofs.blocks.all_rounds.Goals as goal

pub quarters-init : goal.quarters-init
unfolding rounds
quarters-init c = λ b keyed. refl

pub quarters-preserved : goal.quarters-preserved
quarters-preserved c = λ b keyed.
    let v = c.args.v.now in
    c.sixteen_rounds.ensures v b (c.quarters.invariant b keyed) keyed ∙ ap (rounds v (schedule b 48)) (omega arith)

pub returns-then-level-lt3 : goal.returns-then-level-lt3
returns-then-level-lt3 c = λ b keyed.
    c.quarters.invariant b keyed ∙ ap (rounds c.args.v.now (schedule b 48)) (omega arith)

pub returns : goal.returns
unfolding rounds
returns c = λ b keyed.
    let v = c.args.v.now in
    let v1 = c.sixteen_rounds-2.ensures v b refl keyed in
    let v2 = c.sixteen_rounds-3.ensures v b v1 keyed in
    let v3 = c.sixteen_rounds-4.ensures v b v2 keyed in
    c.sixteen_rounds-5.ensures v b v3 keyed
