-- A hash value that takes blocks one by one, and run by run.
use Rattle.std.proofs.Common.{◌≡◌, ℕ, ◌<◌, ◌≤◌, ◌+◌, ◌*◌, ◌/◌, List, [], ◌∷◌, ◌++◌, length, take, drop, zero, suc}
use Rattle.std.proofs.Common.{arith, refl, sym, ap, ◌∙◌, get_or, length-drop}
use Rattle.std.specs.Simd.{first_chunks}
use Rattle.std.specs.Simd.Lanes.{fold_l}
use Rattle.std.proofs.lemmas.List.{take_all, take_more, take-append-drop}
use Rattle.std.proofs.Math.Seq.{take-add}
use Rattle.std.proofs.Math.Nat.{div-mul-le_self}

pub fold-append : {A B : Type 0} (f : A → B → A) (a : A) (xs ys : List B)
    → fold_l f a (xs ++ ys) ≡ fold_l f (fold_l f a xs) ys
fold-append f a [] ys = refl
fold-append f a (x ∷ xs) ys = fold-append f (f a x) xs ys

-- one more
pub fold_more : {A B : Type 0} (f : A → B → A) (a : A) (xs : List B) (n : ℕ) (d : B) → n < length xs
    → fold_l f a (take (n + 1) xs) ≡ f (fold_l f a (take n xs)) (get_or xs n d)
fold_more f a xs n d h = rw (take_more xs n d h, fold-append f a (take n xs) (get_or xs n d ∷ [])) refl

-- runs of n take what they have together
pub fold_runs : {A B : Type 0} (f : A → B → A) (a : A) (n k : ℕ) (xs : List B) → n * k ≤ length xs
    → fold_l (λ v run. fold_l f v run) a (first_chunks n k xs) ≡ fold_l f a (take (n * k) xs)
fold_runs f a n zero xs h = let z : n * 0 ≡ 0 = omega arith in rw z refl
fold_runs f a n (suc k) xs h =
    let e : n * suc k ≡ n + n * k = omega arith in
    rw (e, take-add n (n * k) xs, fold-append f a (take n xs) (take (n * k) (drop n xs)))
    (fold_runs f (fold_l f a (take n xs)) n k (drop n xs) (omega (arith, length-drop n xs)))

-- runs of n, and then the rest
pub fold_by_runs : {A B : Type 0} (f : A → B → A) (a : A) (n : ℕ) (xs : List B) (runs : List (List B)) (rest : List B)
    (count : ℕ) (before after : A) → 0 < n → runs ≡ first_chunks n (length xs / n) xs
    → rest ≡ drop (length xs / n * n) xs → count ≡ length runs
    → before ≡ fold_l (λ v run. fold_l f v run) a (take count runs) → after ≡ fold_l f before rest
    → after ≡ fold_l f a xs
fold_by_runs f a n xs runs rest count before after pos front back all taken made =
    let k : ℕ = length xs / n in
    let scale : n * k ≡ k * n = omega arith in
    let whole : take count runs ≡ runs = take_all count runs (omega arith) in
    let fits : n * k ≤ length xs = omega (arith, div-mul-le_self (length xs) n) in
    let run_by_run : before ≡ fold_l f a (take (k * n) xs) =
    rw (taken, whole, front, fold_runs f a n k xs fits, scale) refl in
    made ∙ rw (run_by_run, back)
    (sym (fold-append f a (take (k * n) xs) (drop (k * n) xs)) ∙ ap (fold_l f a) (take-append-drop (k * n) xs))
