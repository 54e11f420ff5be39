use Rattle.std.proofs.Common.{List, ◌∷◌, [], ℕ, ◌<◌, ◌≡◌, arith, length, refl}
use Rattle.sumlist.proofs.Cutting.{HasNo-from_none, lines-ended, lines-last}
use Rattle.listing.proofs.laws.list_laws.Goals as goal

-- a text that is not empty has some bytes
some_bytes : (line : List ℕ) → (line ≡ [] → ⊥) → 0 < length line
some_bytes [] some = absurd (some refl)
some_bytes (c ∷ line) some = omega arith

pub returns-clause-first : goal.returns-clause-first
returns-clause-first c = λ line rest none. lines-ended line rest (HasNo-from_none 10 line none)

pub returns-clause-last : goal.returns-clause-last
returns-clause-last c = λ line some none. lines-last line (some_bytes line some) (HasNo-from_none 10 line none)
