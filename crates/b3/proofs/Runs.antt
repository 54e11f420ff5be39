-- Subtrees of one size that lie one after the other in a run of chunks.
use Rattle.std.proofs.lemmas.Grind.{common_steps}
use Rattle.std.proofs.Common.{◌≡◌, ℕ, suc, ◌+◌, ◌-◌, ◌*◌, ◌/◌, ◌^◌, ◌<◌, ◌≤◌, List, [], length, take, drop, get_or}
use Rattle.std.proofs.Common.{refl, sym, ap, ap₂, ◌∙◌, arith, one-mul, add-zero, inl, inr, pow_mono, pow-add}
use Rattle.std.proofs.Common.{length-take-le}
use Rattle.std.proofs.Math.ListN.{set}
use Rattle.std.proofs.lemmas.Bool.{cases_lt}
use Rattle.std.proofs.lemmas.List.{drop-drop, take-append-drop, take_rest, take_all, get_or-set_same}
use Rattle.std.proofs.lemmas.List.{get_or-set_other, length-set}
use Rattle.std.proofs.Math.Nat.{mul-le-mul_left, pow-succ'}
use Rattle.b3.specs.Node.{cv}
use Rattle.b3.specs.Tree.{tree}
use Rattle.b3.specs.inside.Stack.{joined_cv}
use Rattle.b3.specs.inside.Runs.{run_cv, value_before_last}
use Rattle.b3.proofs.Folding.{run_join, run_append}
use Rattle.words.proofs.LaneLemmas.{below_eight}

pub run_shift : (key : List ℕ) (flags c k : ℕ) (m : List ℕ) (l i : ℕ)
    → run_cv key flags (c + k) (drop (1024 * k) m) l i ≡ run_cv key flags c m l (k + i)
unfolding run_cv
run_shift key flags c k m l i = grind (arith, common_steps, drop-drop)

pub before_shift : (key : List ℕ) (flags c k : ℕ) (m : List ℕ) (i : ℕ)
    → value_before_last key flags (c + k) (drop (1024 * k) m) i ≡ value_before_last key flags c m (k + i)
before_shift key flags c k m i = grind (arith, common_steps, drop-drop)

pub run_part : (key : List ℕ) (flags c k : ℕ) (m : List ℕ) (l i : ℕ) → 1024 * k ≤ length m → i + 2 ^ l ≤ k
    → run_cv key flags c (take (1024 * k) m) l i ≡ run_cv key flags c m l i
run_part key flags c k m l i h fits =
    let len : length (take (1024 * k) m) ≡ 1024 * k = length-take-le (1024 * k) m h in
    sym (run_append key flags c (take (1024 * k) m) (drop (1024 * k) m) l i (omega arith))
    ∙ ap (λ (x : List ℕ). run_cv key flags c x l i) (take-append-drop (1024 * k) m)

-- a level above the lowest has twice the chunks of the one below it
pub doubled : (level : ℕ) → level - 1 + 1 ≡ level → 2 ^ level ≡ 2 * 2 ^ (level - 1)
doubled level up = ap (λ (n : ℕ). 2 ^ n) (sym up ∙ omega arith) ∙ pow-succ' 2 (level - 1)

pub level_zero : (key : List ℕ) (flags c : ℕ) (m : List ℕ) (level i : ℕ) → level ≡ 0
    → run_cv key flags c m level (2 ^ level * i) ≡ run_cv key flags c m 0 i
level_zero key flags c m level i e = rw (e, one-mul i) refl

-- two neighbours are joined
pub neighbours : (key : List ℕ) (flags c : ℕ) (m : List ℕ) (l a b : ℕ) (x y : List ℕ) → x ≡ run_cv key flags c m l a
    → y ≡ run_cv key flags c m l b
    → b ≡ a + 2 ^ l → 1024 * (a + 2 ^ suc l) ≤ length m → joined_cv key flags x y ≡ run_cv key flags c m (suc l) a
neighbours key flags c m l a b x y left right next h =
    ap₂ (joined_cv key flags) left (right ∙ ap (λ (i : ℕ). run_cv key flags c m l i) next)
    ∙ sym (run_join key flags c m l a h)

module _ (key : List ℕ) (flags c : ℕ) (m : List ℕ) (l level half middle : ℕ) (left right out : ℕ → List ℕ)
    (up : level ≡ suc l) (len : length m ≡ 8192 * 2 ^ level)
    (is_half : half ≡ length m / 2) (is_middle : middle ≡ c + half / 1024)
    (lefts : (i : ℕ) → i < 8 → left i ≡ run_cv key flags c (take half m) l (2 ^ l * i))
    (rights : (i : ℕ) → i < 8
    → right i ≡ run_cv key flags middle (take (length m - half) (drop half m)) l (2 ^ l * i)) where
  double : 2 ^ level ≡ 2 * 2 ^ l
  double = ap (λ (n : ℕ). 2 ^ n) up ∙ pow-succ' 2 l

  at_half : half ≡ 1024 * (8 * 2 ^ l)
  at_half = omega (arith, double, len, is_half)

  low : (i : ℕ) → i < 8 → left i ≡ run_cv key flags c m l (2 ^ l * i)
  low i h =
      let p : ℕ = 2 ^ l in
      let fits : p * i + p ≤ 8 * p
      = below_eight (λ j. p * j + p ≤ 8 * p) (omega arith) (omega arith) (omega arith) (omega arith) (omega arith)
      (omega arith) (omega arith) (omega arith) i h in
      lefts i h ∙ ap (λ (n : ℕ). run_cv key flags c (take n m) l (p * i)) at_half
      ∙ run_part key flags c (8 * p) m l (p * i) (omega (arith, double, len)) fits

  high : (i : ℕ) → i < 8 → right i ≡ run_cv key flags c m l (8 * 2 ^ l + 2 ^ l * i)
  high i h =
      let p : ℕ = 2 ^ l in
      let place : middle ≡ c + 8 * p = omega (arith, is_middle, at_half) in
      rights i h ∙ ap (λ (x : List ℕ). run_cv key flags middle x l (p * i)) (take_rest m half)
      ∙ ap₂ (λ (n k : ℕ). run_cv key flags n (drop k m) l (p * i)) place at_half
      ∙ run_shift key flags c (8 * p) m l (p * i)

  module _ (outl : (i : ℕ) → i < 4 → out i ≡ joined_cv key flags (left (2 * i)) (left (2 * i + 1)))
      (outr : (i : ℕ) → i < 4 → out (4 + i) ≡ joined_cv key flags (right (2 * i)) (right (2 * i + 1))) where
    -- lane i is over two neighbours that begin at chunk a
    over : (i a b : ℕ) (x y : List ℕ) → out i ≡ joined_cv key flags x y → x ≡ run_cv key flags c m l a
        → y ≡ run_cv key flags c m l b → i < 8 → a ≡ 2 ^ l * (2 * i) → b ≡ a + 2 ^ l
        → out i ≡ run_cv key flags c m level (2 ^ level * i)
    over i a b x y joined first second below at next =
        let two : 2 ^ suc l ≡ 2 * 2 ^ l = pow-succ' 2 l in
        let most : 2 ^ l * i ≤ 2 ^ l * 7 = mul-le-mul_left (2 ^ l) (omega arith) in
        let place : a ≡ 2 ^ level * i = rw double (omega arith) in
        joined ∙ neighbours key flags c m l a b x y first second next (omega (arith, double, len, two, most))
        ∙ ap₂ (λ (k j : ℕ). run_cv key flags c m k j) (sym up) place

    lower : (i : ℕ) → i < 4 → out i ≡ run_cv key flags c m level (2 ^ level * i)
    lower i h =
        over i (2 ^ l * (2 * i)) (2 ^ l * (2 * i + 1)) _ _ (outl i h) (low (2 * i) (omega arith))
        (low (2 * i + 1) (omega arith)) (omega arith) refl (omega arith)

    upper : (i : ℕ) → i < 4 → out (4 + i) ≡ run_cv key flags c m level (2 ^ level * (4 + i))
    upper i h = grind (arith, common_steps, over, high)

    pub parent_values : (i : ℕ) → i < 8 → out i ≡ run_cv key flags c m level (2 ^ level * i)
    parent_values =
        below_eight (λ i. out i ≡ run_cv key flags c m level (2 ^ level * i)) (lower 0 (omega arith))
        (lower 1 (omega arith))
        (lower 2 (omega arith)) (lower 3 (omega arith)) (upper 0 (omega arith)) (upper 1 (omega arith))
        (upper 2 (omega arith)) (upper 3 (omega arith))

-- the halves of a run of eight subtrees
pub joined_halves : (key : List ℕ) (flags c : ℕ) (m : List ℕ) (l : ℕ) (v : List (List ℕ)) → length m ≡ 8192 * 2 ^ l
    → ((i : ℕ) → i < 8 → get_or v i [] ≡ run_cv key flags c m l (2 ^ l * i))
    → (joined_cv key flags (joined_cv key flags (get_or v 0 []) (get_or v 1 []))
    (joined_cv key flags (get_or v 2 []) (get_or v 3 [])) ≡ run_cv key flags c m (l + 2) 0)
    × (joined_cv key flags (joined_cv key flags (get_or v 4 []) (get_or v 5 []))
    (joined_cv key flags (get_or v 6 []) (get_or v 7 [])) ≡ run_cv key flags c m (l + 2) (4 * 2 ^ l))
joined_halves key flags c m l v len h =
    let p : ℕ = 2 ^ l in
    let two : 2 ^ suc l ≡ 2 * p = pow-succ' 2 l in
    let four : 2 ^ suc (suc l) ≡ 2 * 2 ^ suc l = pow-succ' 2 (suc l) in
    let level : suc (suc l) ≡ l + 2 = omega arith in
    let start : p * 0 ≡ 0 = omega arith in
    let middle : p * 4 ≡ 4 * p = omega arith in
    let one = λ (i j : ℕ) (li : i < 8) (lj : j < 8) (e : p * j ≡ p * i + 2 ^ l)
    (f : 1024 * (p * i + 2 ^ suc l) ≤ length m).
    neighbours key flags c m l (p * i) (p * j) _ _ (h i li) (h j lj) e f in (
      neighbours key flags c m (suc l) (p * 0) (p * 2) _ _
          (one 0 1 (omega arith) (omega arith) (omega arith) (omega arith))
          (one 2 3 (omega arith) (omega arith) (omega arith) (omega arith)) (omega arith) (omega arith)
          ∙ ap₂ (λ (k j : ℕ). run_cv key flags c m k j) level start,
      neighbours key flags c m (suc l) (p * 4) (p * 6) _ _
          (one 4 5 (omega arith) (omega arith) (omega arith) (omega arith))
          (one 6 7 (omega arith) (omega arith) (omega arith) (omega arith)) (omega arith) (omega arith)
          ∙ ap₂ (λ (k j : ℕ). run_cv key flags c m k j) level middle,
    )

-- both halves
pub joined_whole : (key : List ℕ) (flags c : ℕ) (m : List ℕ) (l : ℕ) (left right : List ℕ) → length m ≡ 8192 * 2 ^ l
    → left ≡ run_cv key flags c m (l + 2) 0 → right ≡ run_cv key flags c m (l + 2) (4 * 2 ^ l)
    → joined_cv key flags left right ≡ run_cv key flags c m (l + 3) 0
joined_whole key flags c m l left right len is_left is_right =
    let four : 2 ^ (l + 2) ≡ 2 ^ l * 2 ^ 2 = pow-add 2 l 2 in
    let eight : 2 ^ suc (l + 2) ≡ 2 * 2 ^ (l + 2) = pow-succ' 2 (l + 2) in
    let level : suc (l + 2) ≡ l + 3 = omega arith in
    neighbours key flags c m (l + 2) 0 (4 * 2 ^ l) left right is_left is_right (omega arith) (omega arith)
    ∙ ap (λ (k : ℕ). run_cv key flags c m k 0) level

-- a run that is one subtree
pub run_whole : (key : List ℕ) (flags c : ℕ) (m : List ℕ) (l : ℕ) → length m ≡ 1024 * 2 ^ l
    → run_cv key flags c m l 0 ≡ cv (tree key flags c m)
unfolding run_cv
run_whole key flags c m l size = grind (arith, common_steps, take_all, add-zero)

-- a power below another is at most its half
pub two_below : (j l : ℕ) → j < l → 2 * 2 ^ j ≤ 2 ^ l
two_below j l h =
    let up : 2 ^ suc j ≡ 2 * 2 ^ j = pow-succ' 2 j in
    let more : 2 ^ suc j ≤ 2 ^ l = pow_mono (omega arith) in
    omega arith

-- the second half of a run of 16 * p chunks
pub run_second : (key : List ℕ) (flags c : ℕ) (m : List ℕ) (p half middle j i : ℕ) → half ≡ 1024 * (8 * p)
    → middle ≡ c + half / 1024
    → run_cv key flags middle (take (length m - half) (drop half m)) j i ≡ run_cv key flags c m j (8 * p + i)
run_second key flags c m p half middle j i at_half is_middle =
    let place : middle ≡ c + 8 * p = omega arith in
    ap (λ (x : List ℕ). run_cv key flags middle x j i) (take_rest m half)
    ∙ ap₂ (λ (n k : ℕ). run_cv key flags n (drop k m) j i) place at_half
    ∙ run_shift key flags c (8 * p) m j i

-- its last chunk
pub last_second : (key : List ℕ) (flags c : ℕ) (m : List ℕ) (p half middle n : ℕ)
    → half ≡ 1024 * (8 * p) → middle ≡ c + half / 1024 → 0 < p → n ≡ 2 * p
    → value_before_last key flags middle (take (length m - half) (drop half m)) (8 * p - 1)
    ≡ value_before_last key flags c m (8 * n - 1)
last_second key flags c m p half middle n at_half is_middle some is = grind (arith, common_steps, take_rest, drop-drop)

-- a run by its place
pub run_at : (key : List ℕ) (flags c : ℕ) (m : List ℕ) (l i n : ℕ) → n ≡ c + i
    → run_cv key flags c m l i ≡ cv (tree key flags n (take (1024 * 2 ^ l) (drop (1024 * i) m)))
unfolding run_cv
run_at key flags c m l i n e = rw e refl

-- the left subtrees above the last chunk, one more level up
pub lefts_more : (key : List ℕ) (flags c : ℕ) (m : List ℕ) (l level half middle : ℕ) (right : ℕ → List ℕ)
    (lefts : List (List ℕ)) → level ≡ suc l
    → length m ≡ 8192 * 2 ^ level → half ≡ length m / 2 → middle ≡ c + half / 1024 → level ≤ length lefts
    → (x : List ℕ) → x ≡ right 6
    → ((i : ℕ) → i < 8 → right i ≡ run_cv key flags middle (take (length m - half) (drop half m)) l (2 ^ l * i))
    → ((j : ℕ) → j < l → get_or lefts j [] ≡ run_cv key flags middle (take (length m - half) (drop half m)) j
    (8 * 2 ^ l - 2 * 2 ^ j))
    → (j : ℕ) → j < level → get_or (set lefts l x) j [] ≡ run_cv key flags c m j (8 * 2 ^ level - 2 * 2 ^ j)
lefts_more key flags c m l level half middle right lefts up len is_half is_middle room x sixth rights held j h =
    let p : ℕ = 2 ^ l in
    let double : 2 ^ level ≡ 2 * p = ap (λ (n : ℕ). 2 ^ n) up ∙ pow-succ' 2 l in
    let at_half : half ≡ 1024 * (8 * p) = omega (arith, double, len, is_half) in
    elim (cases_lt j l) [
      | inl below ↦
          let less : 2 * 2 ^ j ≤ p = two_below j l below in
          let place : 8 * p + (8 * p - 2 * 2 ^ j) ≡ 8 * 2 ^ level - 2 * 2 ^ j = omega (arith, double) in
          get_or-set_other lefts l j x [] (λ e. absurd (omega (arith, e)))
          ∙ held j below ∙ run_second key flags c m p half middle j (8 * p - 2 * 2 ^ j) at_half is_middle
          ∙ ap (λ (i : ℕ). run_cv key flags c m j i) place
      | inr above ↦
          let here : j ≡ l = omega arith in
          let place : 8 * p + p * 6 ≡ 8 * 2 ^ level - 2 * p = omega (arith, double) in
          rw here (get_or-set_same lefts l x [] (omega arith) ∙ sixth
          ∙ rights 6 (omega arith) ∙ run_second key flags c m p half middle l (p * 6) at_half is_middle
          ∙ ap (λ (i : ℕ). run_cv key flags c m l i) place)
    ]

-- with the three above the eighth of the subtrees
pub lefts_above : (key : List ℕ) (flags c : ℕ) (m : List ℕ) (l : ℕ) (v p lefts : List (List ℕ)) (first : List ℕ)
    → length m ≡ 8192 * 2 ^ l
    → l + 3 ≤ length lefts
    → ((i : ℕ) → i < 8 → get_or v i [] ≡ run_cv key flags c m l (2 ^ l * i))
    → ((j : ℕ) → j < l → get_or lefts j [] ≡ run_cv key flags c m j (8 * 2 ^ l - 2 * 2 ^ j))
    → ((i : ℕ) → i < 4 → get_or p i [] ≡ joined_cv key flags (get_or v (2 * i) []) (get_or v (2 * i + 1) []))
    → first ≡ joined_cv key flags (get_or p 0 []) (get_or p 1 [])
    → (j : ℕ) → j < l + 3
    → get_or (set (set (set lefts l (get_or v 6 [])) (l + 1) (get_or p 2 [])) (l + 2) first) j []
    ≡ run_cv key flags c m j (8 * 2 ^ l - 2 * 2 ^ j)
lefts_above key flags c m l v p lefts first len room values held pairs is j h =
    let q : ℕ = 2 ^ l in
    let two : 2 ^ suc l ≡ 2 * q = pow-succ' 2 l in
    let four : 2 ^ suc (suc l) ≡ 2 * 2 ^ suc l = pow-succ' 2 (suc l) in
    let one_up : l + 1 ≡ suc l = omega arith in
    let two_up : l + 2 ≡ suc (suc l) = omega arith in
    let a : List (List ℕ) = set lefts l (get_or v 6 []) in
    let b : List (List ℕ) = set a (l + 1) (get_or p 2 []) in
    let la : length a ≡ length lefts = length-set lefts l (get_or v 6 []) in
    let lb : length b ≡ length a = length-set a (l + 1) (get_or p 2 []) in
    let pair = λ (i j : ℕ) (li : i < 8) (lj : j < 8) (e : q * j ≡ q * i + 2 ^ l)
    (f : 1024 * (q * i + 2 ^ suc l) ≤ length m).
    neighbours key flags c m l (q * i) (q * j) _ _ (values i li) (values j lj) e f in
    elim (cases_lt j (l + 2)) [
      | inl below2 ↦
          get_or-set_other b (l + 2) j first [] (λ e. absurd (omega (arith, e)))
          ∙ elim (cases_lt j (l + 1)) [
            | inl below1 ↦
                get_or-set_other a (l + 1) j (get_or p 2 []) [] (λ e. absurd (omega (arith, e)))
                ∙ elim (cases_lt j l) [
                  | inl below0 ↦
                      get_or-set_other lefts l j (get_or v 6 []) [] (λ e. absurd (omega (arith, e)))
                      ∙ held j below0
                  | inr above ↦
                      let here : j ≡ l = omega arith in
                      let place : q * 6 ≡ 8 * q - 2 * q = omega arith in
                      rw here (get_or-set_same lefts l (get_or v 6 []) [] (omega arith) ∙ values 6 (omega arith)
                      ∙ ap (λ (i : ℕ). run_cv key flags c m l i) place)
                ]
            | inr above ↦
                let here : j ≡ l + 1 = omega arith in
                let power : 2 ^ (l + 1) ≡ 2 * q = ap (λ (n : ℕ). 2 ^ n) one_up ∙ two in
                let place : q * 4 ≡ 8 * q - 2 * 2 ^ (l + 1) = omega (arith, power) in
                rw here (get_or-set_same a (l + 1) (get_or p 2 []) [] (omega arith) ∙ pairs 2 (omega arith)
                ∙ pair 4 5 (omega arith) (omega arith) (omega arith) (omega arith)
                ∙ ap₂ (λ (n i : ℕ). run_cv key flags c m n i) (sym one_up) place)
          ]
      | inr above ↦
          let here : j ≡ l + 2 = omega arith in
          let power : 2 ^ (l + 2) ≡ 4 * q = ap (λ (n : ℕ). 2 ^ n) two_up ∙ omega (arith, two, four) in
          let place : q * 0 ≡ 8 * q - 2 * 2 ^ (l + 2) = omega (arith, power) in
          rw here (get_or-set_same b (l + 2) first [] (omega arith) ∙ is
          ∙ neighbours key flags c m (suc l) (q * 0) (q * 2) _ _
          (pairs 0 (omega arith) ∙ pair 0 1 (omega arith) (omega arith) (omega arith) (omega arith))
          (pairs 1 (omega arith) ∙ pair 2 3 (omega arith) (omega arith) (omega arith) (omega arith))
          (omega (arith, two)) (omega (arith, two, four))
          ∙ ap₂ (λ (n i : ℕ). run_cv key flags c m n i) (sym two_up) place)
    ]
