-- The front of what a feed has to come is read as the feed is.
use Rattle.std.proofs.lemmas.Grind.{common_steps}
use Rattle.std.proofs.Common.{◌≡◌, ℕ, ◌+◌, ◌-◌, ◌≤◌, List, Option, None, Some, length, take, ap, ◌∙◌, arith}
use Rattle.std.proofs.KnownBytes.{Consumes-trans}
use Rattle.std.proofs.Math.Seq.{take-append-add, take-nil}
use Rattle.std.specs.Io.KnownBytes.{Consumes, IsAtEnd}
use Rattle.std.specs.Option.{option_map}
use Rattle.source.specs.declared.front.Front.{Front}
use Rattle.source.specs.inside.Front.{Passes}

-- the first n bytes, where they are told
abbrev pub front_of : ℕ → Option (List ℕ) → Option (List ℕ)
front_of n known = option_map (λ xs. take n xs) known

pub front-consumes : (a b : Option (List ℕ)) (bytes : List ℕ) (n k : ℕ) → length bytes ≡ k → k ≤ n
    → Consumes a b bytes → Consumes (front_of n a) (front_of (n - k) b) bytes
front-consumes None b bytes n k size few given = tt
front-consumes (Some x) None bytes n k size few given = absurd given
front-consumes (Some x) (Some y) bytes n k size few given =
    let whole : n ≡ length bytes + (n - k) = omega (arith, few, size) in
    ap (λ i. take i x) whole ∙ ap (λ (l : List ℕ). take (length bytes + (n - k)) l) given
    ∙ take-append-add bytes y (n - k)

pub front-end : (a : Option (List ℕ)) (n : ℕ) → IsAtEnd a → IsAtEnd (front_of n a)
front-end a n end = grind (arith, common_steps, take-nil)

-- some bytes were given, and then some more
pub Passes-trans : {F : Type 0} (remaining : F → Option (List ℕ)) (a b c : Front F) → Passes remaining a b
    → Passes remaining b c → Passes remaining a c
Passes-trans remaining a b c p q = grind (arith, common_steps, Consumes-trans)
