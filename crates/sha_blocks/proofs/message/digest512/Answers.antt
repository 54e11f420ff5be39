use Rattle.std.proofs.Common.{[], ◌^◌, List, ℕ, ap, arith, length, refl, ◌∙◌}
use Rattle.std.specs.Int.{w128}
use Rattle.sha2.specs.Sha512.{digest_bytes, padded_message, sha512}
use Rattle.sha_blocks.proofs.Taking.{bits_counted}
use Rattle.sha_blocks.proofs.message.digest512.Goals as goal

pub returns : goal.returns
unfolding sha512
returns c =
    let m = c.args.message.now in
    let held = c.update.ensures [] refl c.begin.ensures in
    let bits = bits_counted w128 (2 ^ 128) _ (length m) _ refl (omega arith) c.to_be_bytes-bits.ensures in
    c.bytes.ensures
    ∙ ap (λ (h : List ℕ). digest_bytes h 8) (c.finish.ensures m refl held (padded_message m) (rw bits refl))
