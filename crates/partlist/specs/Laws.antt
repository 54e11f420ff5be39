-- What follows from the definitions of a line, and of lines that are joined.
use Rattle.std.specs.Prelude.{◌≡◌, ℕ, List, ◌++◌, length}
use Rattle.b3.specs.Modes.{hash_parameters}
use Rattle.b3.specs.Parts.{IsPlacedAt}
use Rattle.b3.specs.declared.row.PartValue.{PartValue}
use Rattle.b3.specs.Values.{IsValueOf}
use Rattle.sumlist.specs.Lines.{lines}
use Rattle.partlist.specs.Joined.{AllTell, AreInRow, StopsAt, TellsPart}
use Rattle.partlist.specs.declared.fault.PartFault.{PartFault}
use Rattle.partlist.specs.PartLine.{LineTells, line_of}

-- a line describes one part
abbrev pub OnePart : Type 0
OnePart = (line : List ℕ) (first len first' len' : ℕ) (value value' : List ℕ)
    → LineTells line first len value → LineTells line first' len' value'
    → (first ≡ first') × (len ≡ len') × (value ≡ value')

-- the line of bytes that can stand from a chunk on describes the part of these bytes
abbrev pub TellsBytes : Type 0
TellsBytes = (c : ℕ) (x : List ℕ) → IsPlacedAt c (length x)
    → (part : PartValue) × TellsPart (line_of c x) part
    × (part.first_chunk ≡ c) × IsValueOf hash_parameters part x

-- a text whose lines describe parts that follow does not stop
abbrev pub NoneStops : Type 0
NoneStops = (text : List ℕ) (parts more : List PartValue) (number : ℕ) (fault : PartFault)
    → AllTell (lines text) more → AreInRow (parts ++ more) → StopsAt text parts number fault → ⊥

-- a text stops at one line, and for one reason
abbrev pub OneStop : Type 0
OneStop = (text : List ℕ) (parts : List PartValue) (number number' : ℕ) (fault fault' : PartFault)
    → StopsAt text parts number fault → StopsAt text parts number' fault'
    → (number ≡ number') × (fault ≡ fault')
