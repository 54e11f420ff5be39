use Rattle.std.proofs.Common.{◌≡◌, ℕ, ◌+◌, arith}
use Rattle.sha_blocks.proofs.Quads.{quad_of, quads_of}
use Rattle.sha_blocks.proofs.single.step.Goals as goal

pub returns : goal.returns
returns c = λ h b held.
    let t : ℕ = c.args.t in
    let on : t + 4 + 12 ≡ t + 16 = omega arith in
    let quad = λ (u k : ℕ). quad_of b t u k c.args.w.now in (
      c.four_rounds.ensures h b held.0 (quad t 0 (omega arith) (omega arith) held.1),
      quads_of b (t + 4) _ _ _ _ (quad (t + 4) 1 (omega arith) (omega arith) held.1)
          (quad (t + 4 + 4) 2 (omega arith) (omega arith) held.1) (quad (t + 4 + 8) 3 (omega arith) (omega arith) held.1)
          (rw on (c.next_quad-next.ensures b t (omega arith) held.1)),
    )
