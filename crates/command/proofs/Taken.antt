-- A digest or tag is made of all that a feed gives, or a fault says why not.
use Rattle.std.proofs.lemmas.Grind.{common_steps}
use Rattle.std.proofs.Common.{◌≡◌, ℕ, ◌+◌, ◌≤◌, List, [], ◌++◌, length, Option, None, Some, Result, Ok, IfSome, arith}
use Rattle.hashes.specs.Digest.{digest}
use Rattle.hashes.specs.declared.alg.Alg.{Alg}
use Rattle.source.specs.Pumped.{Appended}
use Rattle.source.specs.declared.pumping.SourceFault.{SourceFault}
use Rattle.command.specs.inside.Making.{Makes}
use Rattle.command.specs.declared.making.Made.{Made}

-- all that came was taken, and this was made of it
pub whole_made : (is : List ℕ → Made → Type 0) (made : Made) (coming : Option (List ℕ)) (room limit : ℕ)
    → IfSome coming (λ m. length m ≤ room) → room ≡ limit → IfSome coming (λ m. is m made)
    → IfSome coming (λ m. let r : Result Made SourceFault = Ok made in Makes limit is m r)
whole_made is made coming room limit few same so = grind (arith, common_steps)

-- the same of a hasher that took it
pub taken_made : {A : Type 0} (holds : A → List ℕ → Type 0) (old new : A) (coming : Option (List ℕ))
    (left room limit : ℕ) (is : List ℕ → Made → Type 0) (made : Made)
    → IfSome coming (Appended holds old new) → IfSome coming (λ m. left + length m ≡ room) → room ≡ limit
    → ((m : List ℕ) → Appended holds old new m → is m made)
    → IfSome coming (λ m. let r : Result Made SourceFault = Ok made in Makes limit is m r)
taken_made holds old new coming left room limit is made taken rest same so = grind (arith, common_steps)

-- the digest of a hasher of nothing that then took what came
pub plain_digest_is : (coming : Option (List ℕ)) (alg : Alg) (tag : List ℕ)
    → (Under : Alg → Type 0) (Does : List ℕ → Type 0)
    → IfSome coming (λ bytes. (a : Alg) (m : List ℕ) → Under a → Does m → tag ≡ digest a (m ++ bytes))
    → Under alg → Does [] → IfSome coming (λ bytes. tag ≡ digest alg bytes)
plain_digest_is None alg tag Under Does digested under empty = tt
plain_digest_is (Some bytes) alg tag Under Does digested under empty = digested alg [] under empty
