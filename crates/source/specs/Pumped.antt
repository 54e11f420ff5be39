-- What goes from a feed into a hasher.
use Rattle.std.specs.Prelude.{◌≡◌, ℕ, ◌<◌, List, ◌++◌, drop, length, take, Option, None, Some, IfSome, ⊤}
use Rattle.std.specs.Borrow.{Bor}
use Rattle.std.specs.Io.KnownBytes.{Consumes, IsAtEnd}
use Rattle.std.specs.List.{flat_map}
use Rattle.std.specs.Option.{option_map}

-- if the old hasher has taken a list, the new one has taken that list followed by `bytes`
abbrev pub Appended : {A : Type 0} → (A → List ℕ → Type 0) → A → A → List ℕ → Type 0
Appended holds old new bytes = (m : List ℕ) → holds old m → holds new (m ++ bytes)

-- the bytes, if they are known, are more than n
abbrev pub IsLongerThan : Option (List ℕ) → ℕ → Type 0
IsLongerThan None n = ⊤
IsLongerThan (Some xs) n = n < length xs

-- lent pieces, one after another
abbrev pub joined : List (Bor (List ℕ)) → List ℕ
joined pieces = flat_map (λ piece. piece.now) pieces

-- some of the bytes to come were given
abbrev pub Gives : Option (List ℕ) → Option (List ℕ) → Type 0
Gives old new = (given : List ℕ) × Consumes old new given

-- the first n bytes, if there is such a number, or else all
abbrev pub up_to : Option ℕ → Option (List ℕ) → Option (List ℕ)
up_to None known = known
up_to (Some n) known = option_map (λ xs. take n xs) known

-- everything after these bytes is still to come
abbrev pub LeavesBehind : Option ℕ → Option (List ℕ) → Option (List ℕ) → Type 0
LeavesBehind None old new = IsAtEnd new
LeavesBehind (Some n) old new = IfSome old (λ xs. new ≡ Some (drop n xs))
