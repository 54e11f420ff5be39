use Rattle.std.proofs.Common.{◌∙◌, ap, arith, refl}
use Rattle.sha2.specs.Sha512.{add_state, compress, rounds, schedule}
use Rattle.sha_blocks.proofs.sha512.blocks.compress_block_of_run.Goals as goal

pub turns-init : goal.turns-init
unfolding rounds
turns-init c = λ b keyed. refl

pub turns-preserved : goal.turns-preserved
turns-preserved c = λ b keyed.
    let h = c.args.h.now in
    let v1 = c.four_rounds.ensures h b (c.turns.invariant b keyed) keyed in
    c.four_rounds-in-turns.ensures h b v1 keyed ∙ ap (rounds h (schedule b 64)) (omega arith)

pub returns : goal.returns
unfolding compress
returns c = λ b keyed.
    let h = c.args.h.now in
    c.sums.ensures ∙ ap (add_state h) (c.turns.invariant b keyed ∙ ap (rounds h (schedule b 64)) (omega arith))
