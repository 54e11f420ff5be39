-- The last bytes of a message with the padding of SHA-2 after them, and the blocks before. `words_after p k` is the
-- hash value after the first k blocks of p, and a block has n bytes.
use Rattle.std.proofs.Common.{◌≡◌, ℕ, zero, suc, ◌+◌, ◌-◌, ◌*◌, ◌/◌, ◌%◌, ◌<◌, ◌≤◌}
use Rattle.std.proofs.Common.{List, ◌∷◌, ◌++◌, length, take, drop}
use Rattle.std.proofs.Common.{[], add-one, replicate, slice_index_or, slice_set, refl, sym, ap}
use Rattle.std.proofs.Common.{◌∙◌, arith, length-append, length-drop}
use Rattle.std.specs.List.{flat_map}
use Rattle.std.proofs.lemmas.List.{drop-append-le, drop-drop, drop-take, length-take-le}
use Rattle.std.proofs.lemmas.List.{set-append_right, take-append-le}
use Rattle.std.proofs.lemmas.List.{take-append-drop, take-replicate, take-take}
use Rattle.std.proofs.lemmas.Nat.{div-mul-add}
use Rattle.std.proofs.Math.Nat.{div-add-mod, mul-le-mul_left}
use Rattle.std.proofs.Math.Seq.{take-append-add}
use Rattle.words.specs.Words.{padded}
use Rattle.pieces.specs.inside.Blocks.{taken}
use Rattle.pieces.proofs.PieceChains.{length_piece, piece_from, row_of}
use Rattle.pieces.proofs.PieceLemmas.{whole_within}

-- the mark behind bytes, where zeros stood
pub marked_from : (n len : ℕ) (bytes block : List ℕ) → length bytes ≡ len → len < n → block ≡ padded n bytes
    → slice_set block len 0x80 ≡ bytes ++ (0x80 ∷ replicate (n - 1 - len) 0)
marked_from n len bytes block size short is =
    let zeros : n - length bytes ≡ suc (n - 1 - len) = omega arith in
    let none : len - len ≡ 0 = omega arith in
    rw (is, zeros)
    (set-append_right bytes (0 ∷ replicate (n - 1 - len) 0) len len 0x80 (omega arith) (omega arith) ∙ rw none refl)

-- the beginning of a block with the mark
pub marked_front : (n len z : ℕ) (bytes : List ℕ) → length bytes ≡ len → z ≤ n - 1 - len
    → take (len + (z + 1)) (bytes ++ (0x80 ∷ replicate (n - 1 - len) 0)) ≡ bytes ++ (0x80 ∷ replicate z 0)
marked_front n len z bytes size fits =
    let back : List ℕ = 0x80 ∷ replicate (n - 1 - len) 0 in
    let front : take (z + 1) back ≡ 0x80 ∷ replicate z 0 =
    rw add-one (ap (λ (xs : List ℕ). 0x80 ∷ xs) (take-replicate z (n - 1 - len) 0 fits)) in
    ap (λ (k : ℕ). take (k + (z + 1)) (bytes ++ back)) (sym size) ∙ take-append-add bytes back (z + 1)
    ∙ ap (λ (xs : List ℕ). bytes ++ xs) front

-- a write within bytes leaves their number
pub length_written : (at : ℕ) (old next bytes : List ℕ) → at + length bytes ≤ length old
    → take (at + length bytes) next ≡ take at old ++ bytes
    → drop (at + length bytes) next ≡ drop (at + length bytes) old → length next ≡ length old
length_written at old next bytes fits front back =
    let k : ℕ = at + length bytes in
    ap length (sym (take-append-drop k next)) ∙ rw (front, back)
    (omega (
      arith,
      length-append (take at old ++ bytes) (drop k old),
      length-append (take at old) bytes,
      length-take-le at old (omega arith),
      length-drop k old,
    ))

-- a block within the first bytes of others
block_within : (n a k : ℕ) (x : List ℕ) → a + n ≤ k → take n (drop a (take k x)) ≡ take n (drop a x)
block_within n a k x inside =
    let size : k ≡ a + (k - a) = omega arith in
    ap (λ (m : ℕ). take n (drop a (take m x))) size ∙ ap (take n) (drop-take a (k - a) x)
    ∙ take-take n (k - a) (drop a x) (omega arith)

-- a block of rows of t bytes that lie one after the other
pub block_of_row : (n t i s j : ℕ) (rows : List (List ℕ)) (flat : List ℕ) → flat ≡ flat_map (λ x. x) rows
    → ((k : ℕ) → k < length rows → length (slice_index_or rows k []) ≡ t) → i < length rows → s ≡ t * (0 + i)
    → n * j + n ≤ t → take n (drop (s + n * j) flat) ≡ take n (drop (n * j) (slice_index_or rows i []))
block_of_row n t i s j rows flat is sizes lane place inside =
    let there : s ≡ t * i = omega arith in
    rw (is, ← drop-drop (n * j) s (flat_map (λ x. x) rows), ← row_of t rows sizes i lane, there)
    (sym (block_within n (n * j) t (drop (t * i) (flat_map (λ x. x) rows)) inside))

module _ (words_after : List ℕ → ℕ → List ℕ) (compressed : List ℕ → List ℕ → List ℕ)
    (made : ℕ → List ℕ → List ℕ → List ℕ) (n : ℕ) (pos : 0 < n)
    (on_front : (p q : List ℕ) (k : ℕ) → k * n ≤ length p → words_after (p ++ q) k ≡ words_after p k)
    (next_block : (p : List ℕ) (k : ℕ) → words_after p (k + 1) ≡ compressed (words_after p k) (take n (drop (k * n) p)))
    (same : (k : ℕ) (h b : List ℕ) → made k h b ≡ compressed h b)
  where
    -- some blocks more, which stand elsewhere too
    taken_more : (p x h : List ℕ) (s k j : ℕ) → h ≡ words_after p k
        → ((l : ℕ) → l < j → take n (drop (s + n * l) x) ≡ take n (drop ((k + l) * n) p))
        → taken made n h x s j ≡ words_after p (k + j)
    unfolding taken
    taken_more p x h s k zero before blocks = before ∙ ap (words_after p) (omega arith)
    taken_more p x h s k (suc j) before blocks =
        let more : k + suc j ≡ k + j + 1 = omega arith in
        rw (
          same j (taken made n h x s j) (take n (drop (s + n * j) x)),
          taken_more p x h s k j before (λ l below. blocks l (omega arith)),
          blocks j (omega arith),
          more,
        )
        (sym (next_block p (k + j)))

    -- the hash value of a message whose last bytes and padding fill the first e blocks of a row
    pub ended : (x flat row pad p first mid last : List ℕ) (s len t e : ℕ) → s + len ≤ length x
        → first ≡ words_after [] 0 → mid ≡ taken made n first x s (len / n)
        → take (len % n + length pad) row ≡ take (len % n) (drop (s + (len - len % n)) x) ++ pad
        → n * e ≡ len % n + length pad
        → ((j : ℕ) → j < e → take n (drop (t + n * j) flat) ≡ take n (drop (n * j) row))
        → last ≡ taken made n mid flat t e → p ≡ take len (drop s x) ++ pad → last ≡ words_after p (length p / n)
    ended x flat row pad p first mid last s len t e fits begun whole ends filled rows left is =
        let q : ℕ = len / n in
        let m : List ℕ = take len (drop s x) in
        let size : length m ≡ len = length_piece x s len fits in
        let split : len ≡ q * n + len % n = omega (arith, div-add-mod len n) in
        let place : len - len % n ≡ q * n = omega arith in
        let none : first ≡ words_after p 0 = begun ∙ sym (on_front [] p 0 (omega arith)) in
        let front : (l : ℕ) → l < q → take n (drop (s + n * l) x) ≡ take n (drop ((0 + l) * n) p) =
        λ l below.
        let at : (0 + l) * n ≡ n * l = omega arith in
        let inside : n * (l + 1) ≤ len = whole_within n len (l + 1) (omega arith) in
        let long : length (drop (n * l) m) ≡ len - n * l =
        length-drop (n * l) m ∙ ap (λ (k : ℕ). k - n * l) size in
        rw (
          at,
          is,
          drop-append-le (n * l) m pad (omega arith),
          take-append-le n (drop (n * l) m) pad (omega arith),
          piece_from x s len (n * l) (omega arith),
        )
        (sym (take-take n (len - n * l) (drop (s + n * l) x) (omega arith))) in
        let halfway : mid ≡ words_after p (0 + q) = whole ∙ taken_more p x first s 0 q none front in
        let rest : drop (q * n) p ≡ take (len % n + length pad) row =
        rw (is, drop-append-le (q * n) m pad (omega arith), piece_from x s len (q * n) (omega arith), ends, place)
        (ap (λ (k : ℕ). take k (drop (s + q * n) x) ++ pad) (omega arith)) in
        let back : (l : ℕ) → l < e → take n (drop (t + n * l) flat) ≡ take n (drop ((0 + q + l) * n) p) =
        λ l below.
        let at : (0 + q + l) * n ≡ q * n + n * l = omega arith in
        let inside : n * (l + 1) ≤ n * e = mul-le-mul_left n (omega arith) in
        rows l below ∙ rw (at, ← drop-drop (n * l) (q * n) p, rest)
        (sym (block_within n (n * l) (len % n + length pad) row (omega arith))) in
        let count : length p ≡ (0 + q + e) * n + 0 = rw is (omega (arith, length-append m pad)) in
        left ∙ taken_more p flat mid t (0 + q) e halfway back
        ∙ ap (words_after p) (sym (rw count (div-mul-add (0 + q + e) n 0 pos)))
