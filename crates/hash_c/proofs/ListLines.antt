-- How long the lines of lists are, and which algorithm a number and a length name.
use Rattle.hashes.specs.declared.alg.Alg.{Alg}
use Rattle.hashes.specs.declared.alg.Alg.TheVariants.{Blake2b, Blake2s, Blake3, Sha256, Sha512}
use Rattle.sumlist.proofs.Common.{◌≡◌, ◌∙◌, Bool, ap, arith, digest_len, false, length}
use Rattle.sumlist.proofs.Common.{length-append, length-encode_with, lower_digits, refl, sym, true, ℕ}
use Rattle.std.specs.Prelude.{◌==◌, if◌then◌else◌}
use Rattle.sumlist.specs.Entry.{Listing}
use Rattle.sumlist.specs.Filled.{line_text}
use Rattle.sumlist.specs.inside.Filling.{line_len}
use Rattle.listing.specs.Numbers.{IsAlg}

pub length-line_text : (is_tagged : Bool) (e : Listing) → length e.tag ≡ digest_len e.alg
    → line_len is_tagged e.alg e.name ≡ length (line_text is_tagged e)
length-line_text true e sized =
    let len = length-encode_with lower_digits e.tag in grind (arith, length-append {A = ℕ}, len)
length-line_text false e sized =
    let len = length-encode_with lower_digits e.tag in grind (arith, length-append {A = ℕ}, len)

abbrev alg_at : (hash len : ℕ) → Alg
alg_at hash len =
    if hash == 1 then Sha256
    else if hash == 2 then Sha512
    else if hash == 3 then Blake2b len
    else if hash == 4 then Blake2s len
    else Blake3

alg_back : (hash len : ℕ) (alg : Alg) → IsAlg hash len alg → alg_at hash len ≡ alg
alg_back hash len Sha256 is = rw is.0 refl
alg_back hash len Sha512 is = rw is.0 refl
alg_back hash len (Blake2b n) is = rw is.0 (ap Blake2b (sym is.2))
alg_back hash len (Blake2s n) is = rw is.0 (ap Blake2s (sym is.2))
alg_back hash len Blake3 is = rw is.0 refl

-- no two algorithms have one number and one length
pub alg_one : (hash len : ℕ) (a b : Alg) → IsAlg hash len a → IsAlg hash len b → a ≡ b
alg_one hash len a b is same = sym (alg_back hash len a is) ∙ alg_back hash len b same
