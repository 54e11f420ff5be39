use Rattle.std.proofs.Common.{◌≡◌, ◌∙◌, ap, subst, [], ℕ, List}
use Rattle.words.specs.Blake2.{blake2b}
use Rattle.blake2.specs.Blake2.{Parameters, from_list, listed, salted}
use Rattle.blake2.specs.inside.Listed.{read_back}
use Rattle.blake2.specs.inside.States.{StateHolds2b}
use Rattle.hash_c.proofs.blake2b_stream.sums_blake2b_init_salted.Goals as goal

-- the hasher's parameters are read back from their list
pub returns-in-Ok-clause-begun : goal.returns-in-Ok-clause-begun
returns-in-Ok-clause-begun c = λ _.
    let args = c.args in
    let p : Parameters = salted args.digest_len args.key.now args.salt.now args.personal.now in
    let made = c.in-Ok.ensures in
    let back : from_list blake2b (listed p) ≡ p = read_back blake2b p c.told-salt c.told-personal in
    subst (λ (q : Parameters). StateHolds2b c.save.new.self q [])
    (ap (λ (l : List ℕ). from_list blake2b l) made.1 ∙ back) (c.save.ensures [] made.3)
