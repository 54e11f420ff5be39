use Rattle.std.proofs.Common.{◌++◌, ◌∙◌, ℕ, List, ap}
use Rattle.std.proofs.lemmas.Option.{IfSome_then}
use Rattle.mac.specs.Hmac.{hmac_of_block_key, xored}
use Rattle.states.proofs.hmac.finish_hmac.Goals as goal

-- the outer hasher took the digest of the inner one
pub returns-in-Ok-clause-tag : goal.returns-in-Ok-clause-tag
unfolding hmac_of_block_key
returns-in-Ok-clause-tag g c =
    IfSome_then c.finish-in-Ok.result c.finish-in-Ok.ensures.digest (λ tag told k m held.
    let digest = c.bytes.ensures.value ∙ c.in_ok-digest.ensures.digest _ held.1 in
    told _ (c.in-Ok.ensures.appended _ held.2)
    ∙ ap (λ (d : List ℕ). g.H.BlockHash.hash_of (xored 0x5c k ++ d)) digest)
