use Rattle.std.proofs.Common.{◌≡◌, List, [], ◌∷◌, ℕ, ap, arith}
use Rattle.std.proofs.lemmas.Grind.{common_steps}
use Rattle.blake2.specs.Blake2.{blake2, from_list, listed, unsalted}
use Rattle.blake2.specs.inside.Hashers.{parameters_2b}
use Rattle.words.specs.Blake2.{blake2b}
use Rattle.hashes.specs.Digest.{digest}
use Rattle.hashes.specs.declared.alg.Alg.{Alg}
use Rattle.hashes.specs.declared.alg.Alg.TheVariants.{Blake2b}
use Rattle.source.specs.inside.AnyHash.{parameters_of}
use Rattle.source.proofs.any_hash.AnyHash.finish.Goals as goal

-- the digest under the parameters of BLAKE2b
of_2b : (alg : Alg) (l m : List ℕ) → 2 ∷ l ≡ parameters_of alg
    → blake2 blake2b (from_list blake2b l) m ≡ digest alg m
of_2b (Blake2b n) l m same =
    let tail : l ≡ listed (unsalted blake2b n []) = cc in ap (λ x. blake2 blake2b (from_list blake2b x) m) tail
of_2b alg l m same = grind arith

pub returns-in-Blake2b-clause-digest : goal.returns-in-Blake2b-clause-digest
returns-in-Blake2b-clause-digest c alg m same held =
    grind (arith, common_steps, c.finish-in-Blake2b.ensures.digest m, of_2b alg (parameters_2b c.in-Blake2b.hasher) m)
