-- A key of one block, as the first bytes of the fixed storage that it is kept in.
use Rattle.std.proofs.Common.{◌≡◌, ℕ, ◌+◌, ◌-◌, ◌<◌, ◌≤◌, List, ◌++◌, length, take, replicate, arith, sym, ◌∙◌, ap}
use Rattle.std.proofs.Math.Seq.{take-append-add}
use Rattle.std.proofs.lemmas.Bool.{lt-ltb, le-ltb}
use Rattle.std.proofs.lemmas.List.{take-replicate}
use Rattle.words.specs.Words.{padded}
use Rattle.mac.specs.Hmac.{block_sized_key}

-- the zeros past n may be left out
pub take-padded : (n limit : ℕ) (xs : List ℕ) → length xs ≤ n → n ≤ limit → take n (padded limit xs) ≡ padded n xs
take-padded n limit xs short fits =
    let k : length xs + (n - length xs) ≡ n = omega arith in
    let zeros : n - length xs ≤ limit - length xs = omega arith in
    ap (λ i. take i (padded limit xs)) (sym k)
    ∙ take-append-add xs (replicate (limit - length xs) 0) (n - length xs)
    ∙ ap (λ ys. xs ++ ys) (take-replicate (n - length xs) (limit - length xs) 0 zeros)

-- a key of at most one block
pub block_sized_key-short : (hash : List ℕ → List ℕ) (n limit : ℕ) (key : List ℕ) → length key ≤ n → n ≤ limit
    → take n (padded limit key) ≡ block_sized_key hash n key
unfolding block_sized_key
block_sized_key-short hash n limit key short fits =
    rw (le-ltb n (length key) short) (take-padded n limit key short fits)

-- a longer key
pub block_sized_key-long : (hash : List ℕ → List ℕ) (n limit : ℕ) (key : List ℕ) → n < length key
    → length (hash key) ≤ n → n ≤ limit
    → take n (padded limit (hash key)) ≡ block_sized_key hash n key
unfolding block_sized_key
block_sized_key-long hash n limit key long digest fits =
    rw (lt-ltb n (length key) long) (take-padded n limit (hash key) digest fits)
