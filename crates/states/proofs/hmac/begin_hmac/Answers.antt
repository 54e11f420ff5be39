use Rattle.std.proofs.Common.{◌≡◌, ◌++◌, [], ℕ, List, arith, length, take, subst}
use Rattle.std.proofs.lemmas.Grind.{common_steps}
use Rattle.std.proofs.lemmas.List.{length-take-le, take-map}
use Rattle.mac.specs.Hmac.{xored}
use Rattle.states.specs.Macs.{IsMac}
use Rattle.states.proofs.hmac.begin_hmac.Goals as goal

-- the first block of the xored storage is the xored key
pub returns-clause-begun : goal.returns-clause-begun
returns-clause-begun g c =
    let n = g.H.BlockHash.BLOCK in
    let holds = g.S.StateOf.holds in
    let small = g.met.H.BlockHash.numbers.block_is_small in
    let block = c.in_ok-block.block in
    let whole : length (take n block) ≡ n = length-take-le n block (omega (arith, c.in_ok-block.ensures.length)) in
    let inner : take c.BLOCK.result c.xor_each.result ≡ xored 0x36 (take n block) ++ []
    = grind (arith, common_steps, take-map) in
    let outer : take c.BLOCK-2.result c.xor_each-2.result ≡ xored 0x5c (take n block)
    = grind (arith, common_steps, take-map) in
    subst (λ (k : List ℕ). IsMac holds n k c.begin_with.new.state c.begin_with-2.new.state [])
    c.in_ok-block.ensures.value (
      whole,
      subst (holds c.begin_with.new.state) inner c.begin_with.ensures,
      subst
          (holds c.begin_with-2.new.state) outer c.begin_with-2.ensures,
    )
