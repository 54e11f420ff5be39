use Rattle.std.proofs.Common.{[], ◌≡◌, ◌*◌, ◌%◌, ◌^◌, List, ℕ, ap, length, refl, ◌∙◌}
use Rattle.std.specs.Int.{to_be_bytes, w64}
use Rattle.sha2.specs.Sha256.{digest_bytes, padded_message, sha256}
use Rattle.sha_blocks.proofs.message.digest256.Goals as goal

pub returns : goal.returns
unfolding sha256
returns c =
    let m = c.args.message.now in
    let held = c.update.ensures [] refl c.begin.ensures in
    let bits : c.to_be_bytes-bits.result ≡ to_be_bytes w64 (length m * 8 % 2 ^ 64) = c.to_be_bytes-bits.ensures in
    c.bytes.ensures
    ∙ ap (λ (h : List ℕ). digest_bytes h 8) (c.finish.ensures m c.from.ensures held (padded_message m) (rw bits refl))
