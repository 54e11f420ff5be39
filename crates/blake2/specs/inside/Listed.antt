-- The list of parameters loses none of them.
use Rattle.std.specs.Prelude.{◌≡◌, ℕ, suc, ◌+◌, ◌*◌, List, ◌++◌, length, take, drop}
use Rattle.std.proofs.Common.{refl, arith, ap, ◌∙◌, append_assoc, length-append}
use Rattle.std.proofs.lemmas.List.{drop_at, take_at}
use Rattle.words.specs.Mix.{Variant}
use Rattle.blake2.specs.Blake2.{IsParameters, Parameters, from_list, listed, salted, word_len}

salt_of : (s t key : List ℕ) (n : ℕ) → length s ≡ n → take n (s ++ t ++ key) ≡ s
salt_of s t key n e = ap (λ (l : List ℕ). take n l) (append_assoc s t key) ∙ take_at s (t ++ key) n e

personal_of : (s t key : List ℕ) (n : ℕ) → length s ≡ n → length t ≡ n → take n (drop n (s ++ t ++ key)) ≡ t
personal_of s t key n es et =
    ap (λ (l : List ℕ). take n (drop n l)) (append_assoc s t key)
    ∙ ap (λ (l : List ℕ). take n l) (drop_at s (t ++ key) n es) ∙ take_at t key n et

key_of : (s t key : List ℕ) (n m : ℕ) → length s ≡ n → length t ≡ n → m ≡ n + n → drop m (s ++ t ++ key) ≡ key
key_of s t key n m es et em = drop_at (s ++ t) key m (omega (arith, length-append s t))

-- where salt and personalization have two words each, the parameters are read back as they were
pub read_back : (k : Variant) (p : Parameters) → length p.salt ≡ 2 * word_len k → length p.personal ≡ 2 * word_len k
    → from_list k (listed p) ≡ p
read_back k p es et =
    let n : ℕ = 2 * word_len k in
    let d : ℕ = p.digest_length in
    let l : List ℕ = listed p in
    let after_salt : 1 + n ≡ suc n = omega arith in
    let after_both : 1 + 4 * word_len k ≡ suc (n + n) = omega arith in
    let salt : take n (drop 1 l) ≡ p.salt = salt_of p.salt p.personal p.key n es in
    let personal : take n (drop (1 + n) l) ≡ p.personal =
    ap (λ (i : ℕ). take n (drop i l)) after_salt ∙ personal_of p.salt p.personal p.key n es et in
    let key : drop (1 + 4 * word_len k) l ≡ p.key =
    ap (λ (i : ℕ). drop i l) after_both ∙ key_of p.salt p.personal p.key n (n + n) es et refl in
    ap (λ (s : List ℕ). salted d (from_list k l).key s (from_list k l).personal) salt
    ∙ ap (λ (t : List ℕ). salted d (from_list k l).key p.salt t) personal
    ∙ ap (λ (x : List ℕ). salted d x p.salt p.personal) key

-- the same of all parameters that the function has
pub parameters_read_back : (k : Variant) (p : Parameters) → IsParameters k p → from_list k (listed p) ≡ p
parameters_read_back k p h = read_back k p h.3 h.4
