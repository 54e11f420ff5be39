use Rattle.std.proofs.Common.{◌≤◌, ◌∙◌, ap, arith, ℕ, replicate}
use Rattle.std.proofs.lemmas.List.{take-replicate}
use Rattle.mac.specs.Hmac.{block_sized_key}
use Rattle.kdf.proofs.extract.Extract.new.Goals as goal

pub returns-in_ok-new-in-None-clause-salt : goal.returns-in_ok-new-in-None-clause-salt
returns-in_ok-new-in-None-clause-salt g c =
    let small : c.OUT.result ≤ 64 = omega (arith, c.OUT.ensures, g.met.H.BlockHash.numbers.out_is_small) in
    rw c.in-None.is (c.in_ok-new-in-None.ensures.key
    ∙ ap (block_sized_key g.H.BlockHash.hash_of g.H.BlockHash.BLOCK)
    (take-replicate c.OUT.result 64 0 small ∙ ap (λ (n : ℕ). replicate n 0) c.OUT.ensures))
