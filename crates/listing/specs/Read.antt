-- What a call that reads a piece of a list, or ends it, makes of what was read before (docs/FORMAT.md, Grammar).
use Rattle.std.specs.Prelude.{◌≡◌, ◌≢◌, ◌≤◌, ◌+◌, ◌++◌, ◌∷◌, ℕ, List, Option, Contains, length}
use Rattle.hashes.specs.declared.kind.Kind.{Kind}
use Rattle.listing.specs.Line.{Means}
use Rattle.listing.specs.declared.line.ListLine.{ListLine}
use Rattle.listing.specs.declared.line.TheConstants.{LINE_NONE}
use Rattle.listing.specs.declared.state.ListState.{ListState}

-- the mark of one of the hashes, or of none; the part of a line that is held may be anything
abbrev pub IsBegun : ListState → Type 0
IsBegun s = (1 ≤ s.mark) × (s.mark ≤ 6)

-- a line of these bytes has ended, after n other lines
pub record EndsLine (kind : Option Kind) (n : ℕ) (text : List ℕ) (l : ListLine) : Type 0 where
  pub number : l.number ≡ n + 1
  pub means : Means text kind l

-- the whole piece was read, and has no LF; or it was read up to its first LF, which ends the line that had begun
pub record ReadsPiece (kind : Option Kind) (n : ℕ) (begun piece : List ℕ) (l : ListLine) : Type 0 where
  pub none : l.kind ≡ LINE_NONE → (Contains piece 10 → ⊥) × (l.taken ≡ length piece)
  pub line : l.kind ≢ LINE_NONE → (front : List ℕ) × (rest : List ℕ) × (piece ≡ front ++ 10 ∷ rest)
      × (Contains front 10 → ⊥) × (l.taken ≡ length front + 1) × EndsLine kind n (begun ++ front) l
