use Rattle.std.proofs.Common.{◌<◌, ℕ, subst}
use Rattle.blake2.specs.Blake2.{block_len}
use Rattle.blake2.proofs.Holding.{IsHeld_none}
use Rattle.blake2.proofs.stream.Stream.new.Goals as goal

pub returns-clause-held : goal.returns-clause-held
returns-clause-held g c =
    let pos : 0 < block_len g.C.Chain.variant = subst (λ (n : ℕ). 0 < n) g.met.C.Chain.block g.met.C.Chain.positive in
    IsHeld_none g.C.Chain.variant (g.C.Chain.value c.args.chain) pos _
