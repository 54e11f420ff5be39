-- The pieces of a buffer, and their digests one behind the other.
use Rattle.std.proofs.Common.{◌≡◌, ℕ, ◌+◌, ◌-◌, ◌*◌, ◌/◌, ◌<◌, ◌≤◌, List, ◌++◌, length, take, drop, refl, arith}
use Rattle.std.proofs.Common.{◌∙◌, ◌⊎◌, ◌≢◌, [], inl, inr, add-one, ap, min, length-drop, slice_index}
use Rattle.std.proofs.Common.{slice_index_or, slice_set, sym}
use Rattle.std.proofs.lemmas.Grind.{get_or-set_at}
use Rattle.std.proofs.lemmas.List.{get_or-set_other}
use Rattle.std.proofs.lemmas.Bool.{cases_eq, cases_lt}
use Rattle.std.proofs.lemmas.List.{drop-drop, drop-take, drop_at, length-take-le, take-append-le, take-take, take_all}
use Rattle.std.proofs.lemmas.List.{take_min}
use Rattle.std.proofs.lemmas.Nat.{le-div}
use Rattle.std.proofs.Math.Nat.{mul-le-mul_left, mul-le-mul_right, div-mul-le_self}
use Rattle.pieces.specs.declared.messages.Messages.{Messages}
use Rattle.pieces.specs.inside.Rows.{IsRow}
use Rattle.pieces.specs.Pieces.{first_digests, piece, piece_count}

-- a piece before the last of some lies whole before their end
pub start_within : (n done count i len : ℕ) → i < count → n * (done + count) ≤ len → n * (done + i) + n ≤ len
start_within n done count i len below fits =
    let inside : n * (done + (i + 1)) ≤ n * (done + count) = mul-le-mul_left n (omega arith) in
    omega arith

-- there are no more pieces than bytes
pub count_within : (n k len : ℕ) → 0 < n → n * k ≤ len → k ≤ len
count_within n k len some fits =
    let once : 1 * k ≤ n * k = mul-le-mul_right k some in
    omega arith

-- whole pieces lie in the buffer
pub whole_within : (n len k : ℕ) → k ≤ len / n → n * k ≤ len
whole_within n len k below =
    let inside : n * k ≤ n * (len / n) = mul-le-mul_left n below in
    omega (arith, div-mul-le_self len n)

-- a whole piece is a piece
pub whole_counted : (n len : ℕ) → 0 < n → len / n ≤ piece_count n len
whole_counted n len some = le-div (len / n) (len + (n - 1)) n some (omega (arith, div-mul-le_self len n))

-- the room for the digests of some pieces
pub room_within : (size k total : ℕ) → k ≤ total → size * k ≤ size * total
room_within size k total below = mul-le-mul_left size below

-- the rows of a group are small
pub rows_small : (i lanes most : ℕ) → i ≤ lanes → lanes ≤ 8 → most ≤ 128 → i * (most * 1) < 9223372036854775808
rows_small i lanes most lane few small =
    let rows : i * most ≤ i * 128 = mul-le-mul_left i small in
    omega arith

-- a piece as it is cut off, which may be short at the end
pub cut_off : (n k a : ℕ) (x : List ℕ) → k ≡ min n (length x - a)
    → take k (take (length x - a) (drop a x)) ≡ take n (drop a x)
cut_off n k a x is =
    let whole : take (length x - a) (drop a x) ≡ drop a x = take_all (length x - a) (drop a x)
    (omega (arith, length-drop a x)) in
    rw (whole, is, ← length-drop a x) (take_min n (drop a x))

-- one digest more
pub digest_more : (hash : List ℕ → List ℕ) (n size k : ℕ) (bytes out next row m : List ℕ) → m ≡ piece n bytes k
    → take size row ≡ hash m → take (size * k) out ≡ first_digests hash n bytes k
    → take (size * k + size) next ≡ take (size * k) out ++ take size row
    → take (size * (k + 1)) next ≡ first_digests hash n bytes (k + 1)
unfolding first_digests
digest_more hash n size k bytes out next row m is made before put =
    let more : size * (k + 1) ≡ size * k + size = omega arith in
    rw (more, add-one) (put ∙ rw (before, made, is) refl)

-- what holds of the rows so far holds with one row more
pub row_more : (P : ℕ → List ℕ → Type 0) (rows : List (List ℕ)) (i : ℕ) (row : List ℕ) → i < length rows → P i row
    → ((k : ℕ) → k < i → P k (slice_index_or rows k []))
    → (k : ℕ) → (k ≡ i) ⊎ (k ≢ i) → k < i + 1 → P k (slice_index_or (slice_set rows i row) k [])
row_more P rows i row within here before k (inl same) h =
    rw (get_or-set_at rows i k row [] same within, same) here
row_more P rows i row within here before k (inr other) h =
    rw (get_or-set_other rows i k row [] other) (before k (omega (arith, other)))

-- ---- rows of `size` bytes that are written in any order

-- a row lies within the rows
pub row_within : (size n i len : ℕ) → i < n → size * n ≤ len → size * i + size ≤ len
row_within size n i len below fits =
    let inside : size * (i + 1) ≤ size * n = mul-le-mul_left size (omega arith) in
    omega arith

-- a row before a place is that of the bytes before it
row_before : (size j k : ℕ) (x : List ℕ) → size * j + size ≤ k
    → take size (drop (size * j) x) ≡ take size (drop (size * j) (take k x))
row_before size j k x below =
    let cut : k ≡ size * j + (k - size * j) = omega arith in
    sym (ap (λ (m : ℕ). take size (drop (size * j) (take m x))) cut
    ∙ ap (take size) (drop-take (size * j) (k - size * j) x)
    ∙ take-take size (k - size * j) (drop (size * j) x) (omega arith))

-- a row that was right is right after another was written, and that one is right too
pub row_written : (hash : List ℕ → List ℕ) (size : ℕ) (m : Messages) (out next row : List ℕ) (i j : ℕ)
    → size * i + size ≤ length out → size ≤ length row
    → take size row ≡ hash (take (slice_index m.lens.now i) (drop (slice_index m.starts.now i) m.bytes.now))
    → take (size * i + size) next ≡ take (size * i) out ++ take size row
    → drop (size * i + size) next ≡ drop (size * i + size) out
    → ((j ≢ i) → IsRow hash size m out j) → IsRow hash size m next j
row_written hash size m out next row i j room whole right front back before =
    let place : ℕ = size * i in
    let written : take size (drop place next) ≡ take size row =
    sym (ap (λ (m : List ℕ). m) (drop-take place size next)) ∙ ap (drop place) front
    ∙ drop_at (take place out) (take size row) place (length-take-le place out (omega arith)) in
    elim (cases_eq j i) [
      | inl same ↦ rw same (written ∙ right)
      | inr other ↦ elim (cases_lt j i) [
        | inl lt ↦
            let below : size * (j + 1) ≤ size * i = mul-le-mul_left size (omega arith) in
            let kept : take place next ≡ take place out =
            sym (take-take place (place + size) next (omega arith)) ∙ ap (take place) front
            ∙ take-append-le place (take place out) (take size row)
            (omega (arith, length-take-le place out (omega arith)))
            ∙ take-take place place out (omega arith) in
            row_before size j place next (omega arith) ∙ ap (λ (m : List ℕ). take size (drop (size * j) m)) kept
            ∙ sym (row_before size j place out (omega arith)) ∙ before other
        | inr ge ↦
            let above : size * (i + 1) ≤ size * j = mul-le-mul_left size (omega (arith, other)) in
            let cut : size * j ≡ place + size + (size * j - (place + size)) = omega arith in
            let kept : drop (size * j) next ≡ drop (size * j) out =
            ap (λ (m : ℕ). drop m next) cut ∙ sym (drop-drop (size * j - (place + size)) (place + size) next)
            ∙ ap (drop (size * j - (place + size))) back
            ∙ drop-drop (size * j - (place + size)) (place + size) out
            ∙ ap (λ (m : ℕ). drop m out) (sym cut) in
            ap (take size) kept ∙ before other
      ]
    ]
