-- The lines of a list, cut at its first LF (docs/FORMAT.md, Grammar): laws about `lines`.
use Rattle.std.specs.Prelude.{◌≡◌, ◌≢◌, ℕ, List, [], ◌∷◌, ◌++◌, Contains}
use Rattle.sumlist.specs.Lines.{lines}

-- a line ends at the first LF, and the other lines are those of the rest
abbrev pub EndsAtLf : Type 0
EndsAtLf = (line rest : List ℕ) → (Contains line 10 → ⊥) → lines (line ++ 10 ∷ rest) ≡ line ∷ lines rest

-- bytes without LF are one line
abbrev pub LastLine : Type 0
LastLine = (line : List ℕ) → line ≢ [] → (Contains line 10 → ⊥) → lines line ≡ line ∷ []

-- no bytes have no line
abbrev pub NoLines : Type 0
NoLines = lines [] ≡ []
