use Rattle.std.proofs.Common.{◌∙◌, ◌^◌, List, ℕ, ap, arith, length, refl}
use Rattle.std.specs.Int.{w64}
use Rattle.sha2.specs.Sha256.{digest_bytes, padded_message, sha256}
use Rattle.sha_blocks.proofs.Taking.{bits_counted}
use Rattle.states.specs.Begun.{IsBegun256}
use Rattle.states.specs.inside.States.{StateHolds256}
use Rattle.states.proofs.state256.Sha256State.finish.Goals as goal

pub returns-clause-digest : goal.returns-clause-digest
unfolding StateHolds256 IsBegun256 sha256
returns-clause-digest c = λ m held.
    let taken = c.from-taken.ensures ∙ held.1 in
    let bits = bits_counted w64 (2 ^ 64) _ (length m) _ held.1 (omega (arith, held.1, held.0.1))
    c.to_be_bytes.ensures in
    (rw c.unwrap.ensures at c.of.ensures).0 ∙ c.bytes.ensures
    ∙ ap (λ (h : List ℕ). digest_bytes h 8) (c.finish.ensures m taken held.2 (padded_message m) (rw bits refl))
