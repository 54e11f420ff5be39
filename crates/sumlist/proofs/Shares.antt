-- What a share takes.
use Rattle.std.proofs.Common.{◌≡◌, ◌≢◌, ◌∙◌, ℕ, ◌+◌, ◌-◌, ◌*◌, suc, zero, List, [], ◌∷◌}
use Rattle.std.proofs.Common.{map, refl, ap, arith}
use Rattle.std.specs.List.{slice_get}
use Rattle.sumlist.specs.Shared.{every}

-- the next is passed over
pub every-later : {A : Type 0} (n k : ℕ) (x : A) (xs : List A) → k ≢ 0 → every n k (x ∷ xs) ≡ every n (k - 1) xs
every-later n zero x xs some = absurd (some refl)
every-later n (suc k) x xs some = ap (λ j. every n j xs) (omega arith)

-- it is the same of what is made of each
pub every-map : {A B : Type 0} (f : A → B) (n k : ℕ) (xs : List A) → every n k (map f xs) ≡ map f (every n k xs)
every-map f n k [] = refl
every-map f n zero (x ∷ xs) = ap (λ ys. f x ∷ ys) (every-map f n n xs)
every-map f n (suc k) (x ∷ xs) = every-map f n k xs

after_it : (n i : ℕ) → suc (n + (n + 1) * i) ≡ 0 + (n + 1) * (suc i)
after_it n i = omega arith

after_others : (n k i : ℕ) → suc (k + (n + 1) * i) ≡ suc k + (n + 1) * i
after_others n k i = omega arith

pub in_turn : {A : Type 0} (n k i : ℕ) (xs : List A) → slice_get (every n k xs) i ≡ slice_get xs (k + (n + 1) * i)
in_turn n k i [] = refl
in_turn n zero zero (x ∷ xs) = grind arith
in_turn n zero (suc i) (x ∷ xs) = in_turn n n i xs ∙ ap (λ j. slice_get (x ∷ xs) j) (after_it n i)
in_turn n (suc k) i (x ∷ xs) = in_turn n k i xs ∙ ap (λ j. slice_get (x ∷ xs) j) (after_others n k i)
