-- What lines mean that are too long, which hash a number names, and texts without LF.
use Rattle.std.proofs.lemmas.Grind.{common_steps}
use Rattle.std.proofs.Common.{◌≡◌, ◌≤◌, ◌∙◌, ℕ, List, take, false, None, Option, Some, ap, arith, refl, sym}
use Rattle.std.specs.Prelude.{if◌then◌else◌, ◌==◌, Contains}
use Rattle.std.proofs.lemmas.Bool.{eqb-false}
use Rattle.std.proofs.lemmas.List.Elements.{All-contains}
use Rattle.std.proofs.lemmas.Bool.Decides.{nat_tests}
use Rattle.hashes.specs.declared.kind.Kind.{Kind}
use Rattle.hashes.specs.declared.kind.Kind.TheVariants.{Blake2b, Blake2s, Blake3, Sha256, Sha512}
use Rattle.sumlist.specs.Lines.{IsKept}
use Rattle.sumlist.specs.inside.Cut.{HasNo}
use Rattle.listing.specs.Numbers.{number_of}
use Rattle.listing.specs.declared.state.ListState.{ListState}
use Rattle.listing.specs.inside.State.{held}

abbrev kind_at : ℕ → Option Kind
kind_at n =
    if n == 1 then Some Sha256
    else if n == 2 then Some Sha512
    else if n == 3 then Some Blake2b
    else if n == 4 then Some Blake2s
    else if n == 5 then Some Blake3
    else None

kind_back : (k : Option Kind) → kind_at (number_of k) ≡ k
kind_back k = grind (arith, common_steps)

-- no two hashes have one number
pub number_one : (k l : Option Kind) → number_of k ≡ number_of l → k ≡ l
number_one k l e = sym (kind_back k) ∙ ap kind_at e ∙ kind_back l

-- a text without a byte has no such byte anywhere, and the reverse
pub none_from_no : (c : ℕ) (text : List ℕ) → HasNo c text → Contains text c → ⊥
none_from_no c text without some = eqb-false c c (All-contains (λ x. (x == c) ≡ false) text c without some) refl

-- what is held of a line that is not too long
pub held_bytes : (s : ListState) (b : List ℕ) → s.held ≤ 65536 → IsKept (held s) b → b ≡ take s.held s.line
held_bytes s b small kept = grind (arith, nat_tests)
