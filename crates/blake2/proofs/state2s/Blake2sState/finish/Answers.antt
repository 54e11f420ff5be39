use Rattle.std.proofs.Common.{refl, ◌∙◌}
use Rattle.words.specs.Blake2.{blake2s}
use Rattle.blake2.specs.Blake2.{blake2, input, start}
use Rattle.blake2.specs.inside.States.{StateHolds2s}
use Rattle.blake2.proofs.state2s.Blake2sState.finish.Goals as goal

pub returns-clause-digest : goal.returns-clause-digest
unfolding StateHolds2s blake2
returns-clause-digest c = λ p m held.
    let of = c.stream.ensures in
    let value = c.finish.ensures (start blake2s p) (input blake2s p.key m)
    (rw (of.h, of.buffer, of.used, of.compressed) held.3) in
    c.tag.ensures.value ∙ rw (value, held.1) refl
