use Rattle.std.proofs.Common.{arith}
use Rattle.std.proofs.lemmas.Grind.{common_steps}
use Rattle.std.proofs.lemmas.List.{take-map}
use Rattle.mac.specs.Hmac.{hmac_of_block_key}
use Rattle.mac.proofs.hmac.Hmac.finish.Goals as goal

pub returns-clause-tag : goal.returns-clause-tag
unfolding hmac_of_block_key
returns-clause-tag g c m h = grind (arith, common_steps, take-map, c.finish.ensures.digest _ h.inner)
