use Rattle.std.proofs.Common.{◌≡◌, ◌<◌, ◌-◌, ℕ, subst, refl, arith, length-drop, length, take, drop}
use Rattle.std.proofs.lemmas.List.{length-take-le}
use Rattle.blake2.specs.Blake2.{block_len}
use Rattle.blake2.proofs.Holding.{IsHeld_last, zeros_after}
use Rattle.blake2.proofs.stream.Stream.finish.Goals as goal

pub returns : goal.returns
returns g c = λ s p held.
    let w : g.row.N ≡ block_len g.C.Chain.variant = g.met.C.Chain.block in
    let pos : 0 < block_len g.C.Chain.variant = subst (λ (n : ℕ). 0 < n) w g.met.C.Chain.positive in
    let part : length (take (length c.args.self.buffer - c.args.self.used) (drop c.args.self.used c.args.self.buffer))
    ≡ length c.args.self.buffer - c.args.self.used =
    length-take-le _ _ (omega (arith, length-drop c.args.self.used c.args.self.buffer)) in
    IsHeld_last g.C.Chain.variant s pos p _ c.args.self.buffer _ _ c.args.self.used c.args.self.compressed _ held
    (omega arith) (omega arith)
    (zeros_after c.args.self.buffer _ _ _ _ _ (omega arith) (omega arith) (c.fill.ensures.after (λ y e. e))
    (omega arith)) refl
    (c.compress_blocks.ensures.single _ c.from_ref-block.ensures.value).1
