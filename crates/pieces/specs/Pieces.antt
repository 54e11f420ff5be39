-- The digests of the pieces of a buffer.
use Rattle.std.specs.Prelude.{ℕ, zero, suc, ◌+◌, ◌-◌, ◌*◌, ◌/◌, List, [], ◌++◌, take, drop, length}

-- piece i of a buffer that is cut into pieces of n bytes; the last may have fewer
abbrev pub piece : ℕ → List ℕ → ℕ → List ℕ
piece n bytes i = take n (drop (n * i) bytes)

-- how many pieces of n bytes there are in `len` bytes, the last of which may have fewer
abbrev pub piece_count : ℕ → ℕ → ℕ
piece_count n len = (len + (n - 1)) / n

-- the digests of the first k pieces, one after the other
unfoldable pub first_digests : (List ℕ → List ℕ) → ℕ → List ℕ → ℕ → List ℕ
first_digests hash n bytes zero = []
first_digests hash n bytes (suc k) = first_digests hash n bytes k ++ hash (piece n bytes k)

-- the digests of all pieces
abbrev pub digests : (List ℕ → List ℕ) → ℕ → List ℕ → List ℕ
digests hash n bytes = first_digests hash n bytes (piece_count n (length bytes))
