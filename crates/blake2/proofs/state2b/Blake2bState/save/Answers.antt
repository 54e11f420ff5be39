use Rattle.std.proofs.Common.{◌≡◌, arith, subst, sym}
use Rattle.words.specs.Blake2.{blake2b}
use Rattle.blake2.specs.Blake2.{Parameters, from_list, listed}
use Rattle.blake2.specs.inside.Hashers.{Holds2b, hasher_parameters, parameters_2b}
use Rattle.blake2.specs.inside.Listed.{read_back}
use Rattle.blake2.specs.Begun.{IsBegun2b}
use Rattle.blake2.specs.inside.States.{StateHolds2b}
use Rattle.blake2.proofs.state2b.Blake2bState.save.Goals as goal

pub returns : goal.returns
unfolding Holds2b parameters_2b StateHolds2b IsBegun2b
returns c = λ m held.
    let h = c.args.hasher.now.hasher in
    let p : Parameters = hasher_parameters h in
    let to = c.keep.ensures in
    let back : from_list blake2b (listed p) ≡ p = read_back blake2b p h.salt_whole h.personal_whole in
    let some = h.digest_some in
    let most = h.digest_fits in
    let used = h.stream.used_fits in
    let counted = h.stream.counted in
    let begun : IsBegun2b c.keep.new.self = (omega arith, omega arith, omega arith, omega arith) in
    subst (λ (q : Parameters). StateHolds2b c.keep.new.self q m) (sym back)
    (begun, to.digest_length, h.key_fits, rw (to.h, to.buffer, to.used, to.compressed) held)
