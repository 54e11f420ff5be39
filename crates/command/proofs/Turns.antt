-- What a share takes of things that come one after another.
use Rattle.std.proofs.lemmas.Grind.{common_steps}
use Rattle.std.proofs.Common.{◌≡◌, ◌∙◌, ℕ, ◌+◌, ◌-◌, ◌≤◌, zero, suc, List, [], ◌∷◌, ◌++◌, length, ap, refl, arith, ◌<◌}
use Rattle.std.proofs.Common.{false}
use Rattle.std.proofs.lemmas.Bool.Decides.{nat_tests}
use Rattle.std.specs.List.{range_with_len}
use Rattle.sumlist.specs.Shared.{every}
use Rattle.task.specs.declared.sharing.SharedFile.{SharedFile}
use Rattle.command.specs.Lines.{is_input}

-- where there are no other shares, that is all
pub every-all : {A : Type 0} (xs : List A) → every 0 0 xs ≡ xs
every-all [] = refl
every-all (x ∷ xs) = ap (λ ys. x ∷ ys) (every-all xs)

-- a file of which there are other shares is not standard input
pub not_input : (file : SharedFile) → 0 < file.share.others → is_input file.name.now ≡ false
not_input file some = grind (arith, common_steps, nat_tests)

-- how many a share passes over behind these before its next
abbrev pub waits : {A : Type 0} → ℕ → ℕ → List A → ℕ
waits n k [] = k
waits n zero (x ∷ xs) = waits n n xs
waits n (suc k) (x ∷ xs) = waits n k xs

-- where there are no other shares, it passes over none
pub waits-none : {A : Type 0} (xs : List A) (n k : ℕ) → n ≡ 0 → k ≡ 0 → waits n k xs ≡ 0
waits-none [] n k p q = q
waits-none (x ∷ xs) n zero p q = waits-none xs n n p p
waits-none (x ∷ xs) n (suc k) p q = absurd (cc)

-- the next is its own
pub every-more : {A : Type 0} (n k : ℕ) (xs : List A) (x : A) → waits n k xs ≡ 0
    → every n k (xs ++ x ∷ []) ≡ every n k xs ++ x ∷ []
every-more n zero [] x next = refl
every-more n (suc k) [] x next = absurd (cc)
every-more n zero (y ∷ xs) x next = ap (λ ys. y ∷ ys) (every-more n n xs x next)
every-more n (suc k) (y ∷ xs) x next = every-more n k xs x next

pub waits-more : {A : Type 0} (n k : ℕ) (xs : List A) (x : A) → waits n k xs ≡ 0 → waits n k (xs ++ x ∷ []) ≡ n
waits-more n zero [] x next = refl
waits-more n (suc k) [] x next = absurd (cc)
waits-more n zero (y ∷ xs) x next = waits-more n n xs x next
waits-more n (suc k) (y ∷ xs) x next = waits-more n k xs x next

-- or that of another
pub every-over : {A : Type 0} (n k : ℕ) (xs : List A) (x : A) → (waits n k xs ≡ 0 → ⊥)
    → every n k (xs ++ x ∷ []) ≡ every n k xs
every-over n zero [] x other = absurd (other refl)
every-over n (suc k) [] x other = refl
every-over n zero (y ∷ xs) x other = ap (λ ys. y ∷ ys) (every-over n n xs x other)
every-over n (suc k) (y ∷ xs) x other = every-over n k xs x other

pub waits-over : {A : Type 0} (n k : ℕ) (xs : List A) (x : A) → (waits n k xs ≡ 0 → ⊥)
    → waits n k (xs ++ x ∷ []) ≡ waits n k xs - 1
waits-over n zero [] x other = absurd (other refl)
waits-over n (suc k) [] x other = omega arith
waits-over n zero (y ∷ xs) x other = waits-over n n xs x other
waits-over n (suc k) (y ∷ xs) x other = waits-over n k xs x other

-- of as many others, and of more, it takes no fewer
pub every-few : {A B : Type 0} (n k : ℕ) (xs : List A) (ys zs : List B) → length xs ≡ length ys
    → length (every n k xs) ≤ length (every n k (ys ++ zs))
every-few n k [] [] zs same = omega arith
every-few n k [] (y ∷ ys) zs same = absurd (cc)
every-few n k (x ∷ xs) [] zs same = absurd (cc)
every-few n zero (x ∷ xs) (y ∷ ys) zs same =
    let rest = every-few n n xs ys zs (omega (arith, same)) in omega (arith, rest)
every-few n (suc k) (x ∷ xs) (y ∷ ys) zs same = every-few n k xs ys zs (omega (arith, same))

-- of numbers in a row it takes every one from a later one on
pub every-from : (n k first count : ℕ)
    → every n k (range_with_len first count) ≡ every n 0 (range_with_len (first + k) (count - k))
every-from n zero first count =
    let at : first ≡ first + 0 = omega arith in
    let all : count ≡ count - 0 = omega arith in
    ap (λ a. every n 0 (range_with_len a count)) at ∙ ap (λ c. every n 0 (range_with_len (first + 0) c)) all
every-from n (suc k) first zero =
    let none : zero - suc k ≡ 0 = omega arith in rw none refl
every-from n (suc k) first (suc count) =
    let at : first + 1 + k ≡ first + suc k = omega arith in
    let left : count - k ≡ suc count - suc k = omega arith in
    every-from n k (first + 1) count ∙ ap (λ a. every n 0 (range_with_len a (count - k))) at
    ∙ ap (λ c. every n 0 (range_with_len (first + suc k) c)) left
