-- Names that are separated by NUL (docs/FORMAT.md, Names in a file).
use Rattle.std.specs.Prelude.{◌≡◌, ℕ, Bool, true, false, List, [], ◌∷◌, Option}
use Rattle.source.specs.declared.pumping.SourceFault.{SourceFault}
use Rattle.sumlist.specs.Lines.{IsKept, pieces}

-- the names that bytes spell: the pieces between NULs, without the last one if it is empty
abbrev pub names : List ℕ → List (List ℕ)
names bytes = pieces 0 bytes

-- the state of a reader: the bytes that it has read and has yet to take, what it keeps of the last name, and its fault,
-- if there was one
pub record Reading : Type 0 where
  pub ahead : List ℕ
  pub name : Option (List ℕ)
  pub fault : Option SourceFault

-- the first name of some bytes was taken, and these bytes are left; or there were no bytes
abbrev pub IsNextName : Bool → Option (List ℕ) → List ℕ → List ℕ → Type 0
IsNextName true kept bytes left = (name : List ℕ) × IsKept kept name × (names bytes ≡ name ∷ names left)
IsNextName false kept bytes left = (bytes ≡ []) × (left ≡ [])
