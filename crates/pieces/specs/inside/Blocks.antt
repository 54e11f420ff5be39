-- Blocks that are taken one after the other, and the padding of SHA-2.
use Rattle.std.specs.Prelude.{ℕ, zero, suc, ◌+◌, ◌-◌, ◌*◌, ◌%◌, List, ◌∷◌, ◌++◌, length, take, drop, replicate}

-- the value that the first k blocks of n bytes make of h, if they begin at byte s of x; `next j` is what block j makes
unfoldable pub taken : (ℕ → List ℕ → List ℕ → List ℕ) → ℕ → List ℕ → List ℕ → ℕ → ℕ → List ℕ
taken next n h x s zero = h
taken next n h x s (suc k) = next k (taken next n h x s k) (take n (drop (s + n * k) x))

-- what follows a message of `len` bytes: the mark, zeros, and the count that ends a block of n bytes
abbrev pub padding : ℕ → List ℕ → ℕ → List ℕ
padding n count len = 0x80 ∷ replicate ((2 * n - 1 - length count - len % n) % n) 0 ++ count
