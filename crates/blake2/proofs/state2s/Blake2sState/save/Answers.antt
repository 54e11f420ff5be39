use Rattle.std.proofs.Common.{◌≡◌, arith, subst, sym}
use Rattle.words.specs.Blake2.{blake2s}
use Rattle.blake2.specs.Blake2.{Parameters, from_list, listed}
use Rattle.blake2.specs.inside.Hashers.{Holds2s, hasher_parameters, parameters_2s}
use Rattle.blake2.specs.inside.Listed.{read_back}
use Rattle.blake2.specs.Begun.{IsBegun2s}
use Rattle.blake2.specs.inside.States.{StateHolds2s}
use Rattle.blake2.proofs.state2s.Blake2sState.save.Goals as goal

pub returns : goal.returns
unfolding Holds2s parameters_2s StateHolds2s IsBegun2s
returns c = λ m held.
    let h = c.args.hasher.now.hasher in
    let p : Parameters = hasher_parameters h in
    let to = c.keep.ensures in
    let back : from_list blake2s (listed p) ≡ p = read_back blake2s p h.salt_whole h.personal_whole in
    let some = h.digest_some in
    let most = h.digest_fits in
    let used = h.stream.used_fits in
    let counted = h.stream.counted in
    let begun : IsBegun2s c.keep.new.self = (omega arith, omega arith, omega arith, omega arith) in
    subst (λ (q : Parameters). StateHolds2s c.keep.new.self q m) (sym back)
    (begun, to.digest_length, h.key_fits, rw (to.h, to.buffer, to.used, to.compressed) held)
