use Rattle.std.proofs.Common.{◌≡◌, ◌∙◌, ◌^◌, List, ℕ, ap, arith, length, refl}
use Rattle.std.specs.Int.{w128}
use Rattle.sha2.specs.Sha512.{digest_bytes, padded_message, sha512}
use Rattle.sha_blocks.proofs.Taking.{bits_counted}
use Rattle.mac.proofs.sha512_stream.Sha512StreamBlockHash.finish.Goals as goal

pub returns-clause-digest : goal.returns-clause-digest
unfolding sha512
returns-clause-digest c = λ m held.
    let taken : c.taken-taken.result ≡ length m = omega (arith, held.room, c.taken-taken.ensures) in
    let bits = bits_counted w128 (2 ^ 128) _ (length m) _ taken (omega (arith, held.room))
    c.to_be_bytes-bits.ensures in
    (rw c.unwrap.ensures at c.of.ensures).0 ∙ c.bytes.ensures
    ∙ ap (λ (h : List ℕ). digest_bytes h 8)
    (c.finish.ensures m taken held.taken (padded_message m) (rw bits refl))
