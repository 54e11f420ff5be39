use Rattle.std.proofs.Common.{◌≡◌, ◌∙◌, length, ap, ℕ, List, []}
use Rattle.words.specs.Blake2.{blake2s}
use Rattle.blake2.specs.Blake2.{Parameters, blake2, from_list, listed, salted}
use Rattle.blake2.specs.inside.Listed.{read_back}
use Rattle.hash_c.proofs.blake2_once.sums_blake2s_salted.Goals as goal

-- the hasher's parameters are read back from their list
pub returns-clause-digest : goal.returns-clause-digest
returns-clause-digest c = λ _.
    let args = c.args in
    let p : Parameters = salted (length args.out.now) args.key.now args.salt.now args.personal.now in
    let made = c.in-Ok.ensures in
    let held = (rw c.unwrap.ensures at c.update.ensures.appended) [] made.3 in
    let tag = c.finish.ensures.digest args.input.now held in
    let back : from_list blake2s (listed p) ≡ p = read_back blake2s p c.told-salt c.told-personal in
    c.copy_from_slice.ensures.after ∙ c.bytes.ensures.value ∙ tag
    ∙ ap (λ (l : List ℕ). blake2 blake2s (from_list blake2s l) args.input.now) (c.update.ensures.kept ∙ made.1)
    ∙ ap (λ (q : Parameters). blake2 blake2s q args.input.now) back
