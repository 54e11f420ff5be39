use Rattle.std.proofs.Common.{◌∙◌, ◌^◌, List, ℕ, ap, arith, length, refl}
use Rattle.std.specs.Int.{w128}
use Rattle.sha2.specs.Sha512.{digest_bytes, padded_message, sha512}
use Rattle.sha_blocks.proofs.Taking.{bits_counted}
use Rattle.states.specs.Begun.{IsBegun512}
use Rattle.states.specs.inside.States.{StateHolds512}
use Rattle.states.proofs.state512.Sha512State.finish.Goals as goal

pub returns-clause-digest : goal.returns-clause-digest
unfolding StateHolds512 IsBegun512 sha512
returns-clause-digest c = λ m held.
    let taken = c.taken-taken.ensures ∙ held.1 in
    let bits = bits_counted w128 (2 ^ 128) _ (length m) _ taken (omega (arith, held.1, held.0.1))
    c.to_be_bytes.ensures in
    (rw c.unwrap.ensures at c.of.ensures).0 ∙ c.bytes.ensures
    ∙ ap (λ (h : List ℕ). digest_bytes h 8) (c.finish.ensures m taken held.2 (padded_message m) (rw bits refl))
