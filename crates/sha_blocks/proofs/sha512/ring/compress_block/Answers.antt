use Rattle.std.proofs.Common.{◌≡◌, ◌*◌, ◌∙◌, ap, arith, refl}
use Rattle.sha2.specs.Sha512.{add_state, compress, rounds}
use Rattle.sha2.proofs.Schedule512.{IsWindow_first}
use Rattle.sha_blocks.proofs.sha512.ring.compress_block.Goals as goal

pub turns-init : goal.turns-init
unfolding rounds
turns-init c =
    let b = c.args.block.now in
    let read = c.load.invariant in
    let window = IsWindow_first b c.load.ring read.whole (λ k lt. read.written k (omega arith)) in
    (window, c.first_turn.ensures b c.args.h.now window refl)

pub turns-preserved : goal.turns-preserved
turns-preserved c = c.turn_ring.ensures c.args.block.now c.args.h.now c.turns.invariant

pub returns : goal.returns
unfolding compress
returns c =
    let done : 16 * c.turns.turn ≡ 80 = omega arith in
    c.sums.ensures ∙ ap (add_state c.args.h.now) (rw done at c.turns.invariant.1)
