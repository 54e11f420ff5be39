-- How a text is cut at the first byte of a value.
use Rattle.std.specs.Prelude.{◌≡◌, ◌==◌, ℕ, false, List, ◌∷◌, ◌++◌}
use Rattle.std.specs.List.{All}

-- no byte of this value among the bytes
abbrev pub HasNo : ℕ → List ℕ → Type 0
HasNo end xs = All (λ x. (x == end) ≡ false) xs

-- what stands before the first byte of a value, and what stands behind it
abbrev pub IsCut : ℕ → List ℕ → List ℕ → List ℕ → Type 0
IsCut value text front rest = (text ≡ front ++ value ∷ rest) × HasNo value front
