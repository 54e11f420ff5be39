use Rattle.std.proofs.Common.{◌≡◌, ℕ, ◌*◌, ◌∙◌, ap, arith, refl}
use Rattle.sha2.specs.Sha256.{add_state, compress, rounds}
use Rattle.sha_blocks.proofs.Quads.{at_round, quad_of, quads_of}
use Rattle.sha_blocks.proofs.single.compress_block.Goals as goal

pub turns-init : goal.turns-init
unfolding rounds
turns-init c = (
  refl,
  quads_of c.args.block.now 0 _ _ _ _ c.block_quad.ensures c.block_quad-2.ensures c.block_quad-3.ensures
      c.block_quad-4.ensures,
)

pub turns-preserved : goal.turns-preserved
turns-preserved c =
    let h = c.args.h.now in
    let b = c.args.block.now in
    let s1 = c.step.ensures h b c.turns.invariant in
    let s2 = c.step-in-turns.ensures h b s1 in
    let s3 = c.step-in-turns-2.ensures h b (at_round h b _ _ _ _ (omega arith) s2) in
    at_round h b _ _ _ _ (omega arith) (c.step-in-turns-3.ensures h b (at_round h b _ _ _ _ (omega arith) s3))

pub returns : goal.returns
unfolding compress
returns c =
    let h = c.args.h.now in
    let b = c.args.block.now in
    let done : 16 * c.turns.turn ≡ 48 = omega arith in
    let held = rw done at c.turns.invariant in
    let quad = λ (u k : ℕ). quad_of b 48 u k c.turns.w in
    let v1 = c.four_rounds-v.ensures h b held.0 (quad 48 0 (omega arith) (omega arith) held.1) in
    let v2 = c.four_rounds-v-2.ensures h b v1 (quad 52 1 (omega arith) (omega arith) held.1) in
    let v3 = c.four_rounds-v-3.ensures h b v2 (quad 56 2 (omega arith) (omega arith) held.1) in
    c.sums.ensures ∙ ap (add_state h) (c.four_rounds-v-4.ensures h b v3 (quad 60 3 (omega arith) (omega arith) held.1))
