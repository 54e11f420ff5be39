-- How the hash value and the buffer follow a message as it grows.
use Rattle.std.proofs.lemmas.Grind.{common_steps}
use Rattle.std.proofs.Common.{◌≡◌, ℕ, ◌+◌, ◌-◌, ◌*◌, ◌/◌, ◌%◌, ◌<◌, ◌≤◌, List, [], ◌∷◌, ◌++◌, length, take, drop}
use Rattle.std.proofs.Common.{refl, sym, ap, ◌∙◌, arith, get_or, length-append, length-drop, append_assoc}
use Rattle.std.proofs.Common.{zero, suc, replicate, slice_set, add-one, add-zero, zero-add}
use Rattle.std.proofs.lemmas.List.{take_all, append-nil, take-append-drop}
use Rattle.std.proofs.lemmas.List.{length-replicate, length-take-le, replicate-append-replicate, take-replicate}
use Rattle.std.proofs.lemmas.Nat.{div-mul-add, mod-mul-add}
use Rattle.std.proofs.Math.Nat.{div-mul-le_self, div-add-mod, mod-lt, mod-eq_of_lt}
use Rattle.std.proofs.Math.Seq.{drop-append_seam, take-add}
use Rattle.std.specs.Int.{Width, to_be_bytes}
use Rattle.std.specs.List.{concat}
use Rattle.std.specs.Simd.{first_chunks}
use Rattle.std.specs.Simd.Lanes.{fold_l}
use Rattle.sha_blocks.specs.inside.Taken.{HasTaken, IsAfter}

-- chunks of n bytes, joined
concat_chunks : (n k : ℕ) (xs : List ℕ) → n * k ≤ length xs → concat (first_chunks n k xs) ≡ take (n * k) xs
concat_chunks n zero xs h = let z : n * 0 ≡ 0 = omega arith in rw z refl
concat_chunks n (suc k) xs h =
    let e : n * suc k ≡ n + n * k = omega arith in
    rw (e, take-add n (n * k) xs, concat_chunks n k (drop n xs) (omega (arith, length-drop n xs))) refl

-- a message cut behind its whole blocks: p has those, and d the bytes after them
pub record IsCut (words_after : List ℕ → ℕ → List ℕ) (n : ℕ) (h b m p d : List ℕ) : Type 0 where
  pub joined : p ++ d ≡ m
  pub after : IsAfter words_after n h p (length m / n)
  pub rest : length m % n ≡ length d
  pub waiting : take (length m % n) b ≡ d

module _ (words_after : List ℕ → ℕ → List ℕ) (compressed : List ℕ → List ℕ → List ℕ) (n : ℕ) (pos : 0 < n)
    (on_front : (p q : List ℕ) (k : ℕ) → k * n ≤ length p → words_after (p ++ q) k ≡ words_after p k)
    (next_block : (p : List ℕ) (k : ℕ) → words_after p (k + 1) ≡ compressed (words_after p k) (take n (drop (k * n) p)))
  where
    -- one more block
    pub IsAfter_next : (h p x h' : List ℕ) (k : ℕ) → IsAfter words_after n h p k → length x ≡ n → h' ≡ compressed h x
        → IsAfter words_after n h' (p ++ x) (k + 1)
    IsAfter_next h p x h' k held len e =
        let block : take n (drop (k * n) (p ++ x)) ≡ x =
        rw (← held.0, drop-append_seam p x) (take_all n x (omega arith)) in (
          omega (arith, length-append p x),
          rw (next_block (p ++ x) k, block, on_front p x k (omega arith), ← held.1) e,
        )

    -- whole blocks, one after the other
    IsAfter_fold : (h p : List ℕ) (bs : List (List ℕ)) (k : ℕ) → IsAfter words_after n h p k
        → ((i : ℕ) → i < length bs → length (get_or bs i []) ≡ n)
        → IsAfter words_after n (fold_l compressed h bs) (p ++ concat bs) (k + length bs)
    IsAfter_fold h p [] k held len = rw (append-nil, add-zero) held
    IsAfter_fold h p (x ∷ bs) k held len =
        let next = IsAfter_next h p x (compressed h x) k held (len 0 (omega arith)) refl in
        let count : k + suc (length bs) ≡ k + 1 + length bs = omega arith in
        rw (← append_assoc, count)
        (IsAfter_fold (compressed h x) (p ++ x) bs (k + 1) next (λ i l. len (suc i) (omega arith)))

    -- bytes after whole blocks, which wait in the buffer
    pub HasTaken_from : (h b p d : List ℕ) (k : ℕ) → IsAfter words_after n h p k → length d < n
        → take (length d) b ≡ d → HasTaken words_after n h b (p ++ d)
    unfolding HasTaken
    HasTaken_from h b p d k held short waiting =
        let len : length (p ++ d) ≡ k * n + length d = omega (arith, length-append p d, held.0) in
        let whole : length (p ++ d) / n ≡ k = rw len (div-mul-add k n (length d) short) in
        let rest : length (p ++ d) % n ≡ length d = rw len (mod-mul-add k n (length d) short) in (
          rw whole (held.1 ∙ sym (on_front p d k (omega (arith, held.0)))),
          rw (rest, whole, ← held.0, drop-append_seam p d) waiting,
        )

    -- the cut of what was taken
    pub cut : (h b m : List ℕ) → HasTaken words_after n h b m
        → IsCut words_after n h b m (take (length m / n * n) m) (drop (length m / n * n) m)
    unfolding HasTaken
    cut h b m held =
        let k : ℕ = length m / n in
        let p : List ℕ = take (k * n) m in
        let below : k * n ≤ length m = div-mul-le_self (length m) n in
        let joined : p ++ drop (k * n) m ≡ m = take-append-drop (k * n) m in
        let front : length p ≡ k * n = length-take-le (k * n) m below in
        let scale : n * k ≡ k * n = omega arith in
        record {
          joined = joined;
          after = (
            front,
            held.0 ∙ ap (λ (z : List ℕ). words_after z k) (sym joined) ∙ on_front p (drop (k * n) m) k (omega arith),
          );
          rest = omega (arith, div-add-mod (length m) n, length-drop (k * n) m);
          waiting = held.1;
        }

    -- bytes that leave the buffer short of a block
    pub HasTaken_short : (h b c m d : List ℕ) → HasTaken words_after n h b m
        → length m % n + length d < n → take (length m % n + length d) c ≡ take (length m % n) b ++ d
        → HasTaken words_after n h c (m ++ d)
    HasTaken_short h b c m d held short placed =
        let p : List ℕ = take (length m / n * n) m in
        let w : List ℕ = drop (length m / n * n) m in
        let at = cut h b m held in
        let len : length (w ++ d) ≡ length m % n + length d = omega (arith, length-append w d, at.rest) in
        let whole : p ++ (w ++ d) ≡ m ++ d = rw (← append_assoc, at.joined) refl in
        rw (← whole)
        (HasTaken_from h c p (w ++ d) (length m / n) at.after (omega arith) (rw len (rw at.waiting at placed)))

    -- bytes that fill the buffer, which is then taken in
    pub IsAfter_filled : (h b m d x h' : List ℕ) → HasTaken words_after n h b m
        → length m % n + length d ≡ n → length x ≡ n → take (length m % n + length d) x ≡ take (length m % n) b ++ d
        → h' ≡ compressed h x → IsAfter words_after n h' (m ++ d) (length m / n + 1)
    IsAfter_filled h b m d x h' held full len placed e =
        let p : List ℕ = take (length m / n * n) m in
        let w : List ℕ = drop (length m / n * n) m in
        let at = cut h b m held in
        let all : take (length m % n + length d) x ≡ x = take_all (length m % n + length d) x (omega arith) in
        let is : x ≡ w ++ d = sym all ∙ rw at.waiting at placed in
        let whole : p ++ (w ++ d) ≡ m ++ d = rw (← append_assoc, at.joined) refl in
        rw (← whole, ← is) (IsAfter_next h p x h' (length m / n) at.after len e)

    -- whole blocks and a tail, after whole blocks
    pub HasTaken_blocks : (h p bytes h' c tail : List ℕ) (bs : List (List ℕ)) (k : ℕ) → IsAfter words_after n h p k
        → ((i : ℕ) → i < length bs → length (get_or bs i []) ≡ n) → h' ≡ fold_l compressed h bs
        → bs ≡ first_chunks n (length bytes / n) bytes → tail ≡ drop (length bytes / n * n) bytes
        → length tail ≡ length bytes % n → take (0 + length tail) c ≡ tail
        → HasTaken words_after n h' c (p ++ bytes)
    HasTaken_blocks h p bytes h' c tail bs k held whole made front back short waiting =
        let q : ℕ = length bytes / n in
        let scale : n * q ≡ q * n = omega arith in
        let fits : n * q ≤ length bytes = omega (arith, div-mul-le_self (length bytes) n) in
        let joined : concat bs ++ tail ≡ bytes =
        rw (front, back, concat_chunks n q bytes fits, scale) (take-append-drop (q * n) bytes) in
        let all : (p ++ concat bs) ++ tail ≡ p ++ bytes =
        append_assoc p (concat bs) tail ∙ ap (λ (x : List ℕ). p ++ x) joined in
        let over : length bytes % n < n = mod-lt (length bytes) pos in
        let after : IsAfter words_after n h' (p ++ concat bs) (k + length bs) =
        rw made (IsAfter_fold h p bs k held whole) in
        rw (← all)
        (HasTaken_from h' c (p ++ concat bs) tail (k + length bs) after (omega arith) (rw zero-add at waiting))

    -- what was taken, where no byte waits
    pub IsAfter_all : (h b m : List ℕ) → HasTaken words_after n h b m → length m % n ≡ 0
        → IsAfter words_after n h m (length m / n)
    unfolding HasTaken
    IsAfter_all h b m held none = (omega (arith, div-add-mod (length m) n), held.0)

    -- the hash value after whole blocks
    value_after : (h p : List ℕ) (k : ℕ) → IsAfter words_after n h p k → h ≡ words_after p (length p / n)
    value_after h p k held =
        let long : length p ≡ k * n + 0 = omega (arith, held.0) in
        let count : length p / n ≡ k = rw long (div-mul-add k n 0 pos) in
        held.1 ∙ ap (words_after p) (sym count)

    -- a padding that ends the block that waits
    pub padded_here : (h b m front count b' x h' p : List ℕ) → HasTaken words_after n h b m
        → length m % n < n - length count → front ≡ 0x80 ∷ replicate (n - length count - length m % n - 1) 0
        → take (length m % n + length front) b' ≡ take (length m % n) b ++ front
        → length x ≡ n → x ≡ take (n - length count) b' ++ count → h' ≡ compressed h x
        → p ≡ m ++ (0x80 ∷ replicate ((2 * n - 1 - length count - length m % n) % n) 0 ++ count)
        → h' ≡ words_after p (length p / n)
    padded_here h b m front count b' x h' p held fits begins placed whole is made all =
        let used : ℕ = length m % n in
        let z : ℕ = n - length count - used - 1 in
        let long : length front ≡ z + 1 = rw (begins, length-replicate) (omega arith) in
        let at : n - length count ≡ used + length front = omega arith in
        let filled : used + length (front ++ count) ≡ n = omega (arith, length-append front count) in
        let block : x ≡ take used b ++ (front ++ count) = is ∙ rw (at, placed, append_assoc) refl in
        let zeros : (2 * n - 1 - length count - used) % n ≡ z =
        let over : 2 * n - 1 - length count - used ≡ 1 * n + z = omega arith in
        rw over (mod-mul-add 1 n z (omega arith)) in
        let same : m ++ (front ++ count) ≡ p = rw (begins, all, zeros) refl in
        let after = IsAfter_filled h b m (front ++ count) x h' held filled whole
        (take_all (used + length (front ++ count)) x (omega arith) ∙ block) made in
        value_after h' p (length m / n + 1) (rw same at after)

    -- one that goes on in a block of its own
    pub padded_over : (h b m front count x h₁ y h' p : List ℕ) → HasTaken words_after n h b m
        → n - length count ≤ length m % n → length count < n → front ≡ 0x80 ∷ replicate (n - length m % n - 1) 0
        → take (length m % n + length front) x ≡ take (length m % n) b ++ front → length x ≡ n → h₁ ≡ compressed h x
        → length y ≡ n → y ≡ take (n - length count) (replicate n 0) ++ count → h' ≡ compressed h₁ y
        → p ≡ m ++ (0x80 ∷ replicate ((2 * n - 1 - length count - length m % n) % n) 0 ++ count)
        → h' ≡ words_after p (length p / n)
    padded_over h b m front count x h₁ y h' p held over short begins placed whole made next is ended all =
        let used : ℕ = length m % n in
        let below : used < n = mod-lt (length m) pos in
        let long : length front ≡ n - used = rw (begins, length-replicate) (omega arith) in
        let first = IsAfter_filled h b m front x h₁ held (omega arith) whole placed made in
        let last = IsAfter_next h₁ (m ++ front) y h' (length m / n + 1) first next ended in
        let zeros : (2 * n - 1 - length count - used) % n ≡ n - used - 1 + (n - length count) =
        let sum : 2 * n - 1 - length count - used ≡ n - used - 1 + (n - length count) = omega arith in
        rw sum (mod-eq_of_lt (omega arith)) in
        let ones : List ℕ = replicate (n - used - 1) 0 in
        let others : List ℕ = replicate (n - length count) 0 in
        let joined : 0x80 ∷ replicate (n - used - 1 + (n - length count)) 0 ++ count
        ≡ 0x80 ∷ ones ++ (others ++ count) =
        rw (← replicate-append-replicate) (ap (λ (xs : List ℕ). 0x80 ∷ xs) (append_assoc ones others count)) in
        let same : (m ++ front) ++ y ≡ p =
        let taken = take-replicate {X = ℕ} (n - length count) n 0 (omega arith) in
        rw (is, taken, begins, all, zeros, joined, append_assoc) refl in
        value_after h' p (length m / n + 1 + 1) (rw same at last)

-- the beginning of a padding
pub padding_front : (n z : ℕ) → z < n
    → take {A = ℕ} (z + 1) (slice_set (replicate {A = ℕ} n 0) 0 0x80) ≡ 0x80 ∷ replicate z 0
padding_front n z lt = grind (arith, common_steps, add-one, take-replicate)

-- the same, of k bytes
pub padding_begins : (n k : ℕ) → 0 < k → k ≤ n
    → take {A = ℕ} k (slice_set (replicate {A = ℕ} n 0) 0 0x80) ≡ 0x80 ∷ replicate (k - 1) 0
padding_begins n k some fits = grind (arith, common_steps, slice_set, padding_front)

-- the end of a padding: the count of the bits of n bytes
pub bits_counted : (w : Width) (most taken n : ℕ) (count : List ℕ) → taken ≡ n → n * 8 < most
    → count ≡ to_be_bytes w (8 * taken) → count ≡ to_be_bytes w (n * 8 % most)
bits_counted w most taken n count same fits is = grind (arith, common_steps, mod-eq_of_lt)
