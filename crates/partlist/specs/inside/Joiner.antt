-- What contracts see of the parts that were joined.
use Rattle.std.specs.Prelude.{◌≡◌, ℕ, ◌+◌, ◌<◌, ◌↔◌, List, [], ◌++◌, ◌∷◌, length, Option, None, Some, Result, Ok, Err}
use Rattle.std.specs.Prelude.{⊤}
use Rattle.b3.specs.Modes.{hash_parameters}
use Rattle.b3.specs.declared.row.PartValue.{PartValue}
use Rattle.b3.specs.declared.row.Row.{Row}
use Rattle.b3.specs.inside.Rows.{HoldsRow, row_closed, row_count, row_first, row_open, row_parameters}
use Rattle.source.specs.Counts.{next_count}
use Rattle.sumlist.specs.Lines.{lines}
use Rattle.sumlist.specs.inside.Cut.{HasNo}
use Rattle.partlist.specs.Joined.{AllTell, AreInRow, AreValuesOf, IsWrongBehind, StopsAt, bytes_of, last_of}
use Rattle.partlist.specs.declared.fault.JoinFault.{JoinFault}
use Rattle.partlist.specs.declared.fault.JoinFault.TheVariants.{Read, Line}
use Rattle.partlist.specs.declared.joining.Joiner.{Joiner}
use Rattle.partlist.specs.declared.fault.PartFault.{PartFault}

-- a row is that of parts, which are some
pub record IsRowOf (row : Row) (parts : List PartValue) : Type 0 where
  pub first : row_first row ≡ 0
  pub parameters : row_parameters row ≡ hash_parameters
  pub in_row : AreInRow parts
  pub count : row_count row ≡ bytes_of parts
  pub last : row_open row ≡ last_of 1024 parts
  pub some : 0 < length parts
  pub several : (0 < row_closed row) ↔ (1 < length parts)
  pub holds : (m : List ℕ) → AreValuesOf parts m → HoldsRow row m

abbrev pub MayBeRowOf : Option Row → List PartValue → Type 0
MayBeRowOf None parts = parts ≡ []
MayBeRowOf (Some row) parts = IsRowOf row parts

-- so many parts were joined
abbrev pub joined_count : Joiner → ℕ
joined_count joiner = joiner.parts

-- these parts were joined, and they are in a row
pub record HasJoined (joiner : Joiner) (parts : List PartValue) : Type 0 where
  pub size : joined_count joiner ≡ length parts
  pub row : MayBeRowOf joiner.row parts

-- of a text's lines so many were joined behind parts, and these bytes of it come then
pub record Partway (whole : List ℕ) (parts : List PartValue) (joiner : Joiner) (rest : List ℕ) : Type 0 where
  pub before : List (List ℕ)
  pub told : List PartValue
  pub split : lines whole ≡ before ++ lines rest
  pub tells : AllTell before told
  pub joined : HasJoined joiner (parts ++ told)

-- why lines were not joined: a read failed, or a line can't be
abbrev pub StopsSo : List ℕ → List PartValue → JoinFault → Type 0
StopsSo text parts Read = Unit {0}
StopsSo text parts (Line number fault) = StopsAt text parts number fault

-- what was joined before a fault: the lines before the wrong one, or those that had ended when a read failed
abbrev pub LeavesJoined : List ℕ → List PartValue → Joiner → Option (List ℕ) → JoinFault → Type 0
LeavesJoined text parts joiner rest Read = (more : List ℕ) × (rest ≡ Some more) × (front : List ℕ) × HasNo 10 front
    × Partway text parts joiner (front ++ more)
LeavesJoined text parts joiner rest (Line number fault) =
    (more : List ℕ) × (p : Partway text parts joiner more) × (number ≡ length p.before + 1)

-- the fault of a line is that of this one
abbrev pub IsOfLine : ℕ → JoinFault → Type 0
IsOfLine n Read = ⊤
IsOfLine n (Line number fault) = number ≡ n

-- `Read` is one more failure of the feed
abbrev pub JoinCounts : {T : Type 0} → Result T JoinFault → ℕ → ℕ → Type 0
JoinCounts (Ok _) old new = new ≡ old
JoinCounts (Err Read) old new = new ≡ next_count old
JoinCounts (Err (Line number fault)) old new = new ≡ old
