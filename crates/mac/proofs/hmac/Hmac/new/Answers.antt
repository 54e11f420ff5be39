use Rattle.std.proofs.Common.{◌≡◌, ◌++◌, [], arith, take, subst}
use Rattle.std.proofs.lemmas.Grind.{common_steps}
use Rattle.std.proofs.lemmas.List.{take-map}
use Rattle.std.proofs.lemmas.Result.{IfOk-at_ok}
use Rattle.mac.specs.Hmac.{xored}
use Rattle.mac.proofs.hmac.Hmac.new.Goals as goal

pub returns-clause-empty : goal.returns-clause-empty
returns-clause-empty g c =
    let fed : take c.BLOCK.result c.xor_each.result ≡ xored 0x36 (take g.H.BlockHash.BLOCK c.in_ok-key.key) ++ [] =
    grind (arith, common_steps, take-map) in
    let appended = IfOk-at_ok _ c.unwrap.ensures c.update.ensures.appended in
    record {
      inner = subst (g.H.Absorb.holds c.update.new.self) fed (appended _ c.new-inner.ensures.empty);
      room = grind (arith, common_steps);
    }
