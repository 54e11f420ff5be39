-- Lines of parts one after another, and why they cannot be joined (docs/FORMAT.md, Lines of parts).
use Rattle.std.specs.Prelude.{◌≡◌, ℕ, ◌+◌, ◌*◌, ◌^◌, ◌<◌, ⊤, List, [], ◌∷◌, ◌++◌, length, Option, IfSome}
use Rattle.std.specs.List.{AllZip}
use Rattle.b3.specs.Modes.{hash_parameters}
use Rattle.b3.specs.declared.row.PartValue.{PartValue}
use Rattle.b3.specs.Values.{IsValueOf}
use Rattle.words.specs.Words.{words}
use Rattle.sumlist.specs.Lines.{lines}
use Rattle.partlist.specs.PartLine.{LineTells}
use Rattle.partlist.specs.declared.fault.EndFault.{EndFault}
use Rattle.partlist.specs.declared.fault.EndFault.TheVariants.{NoParts, Alone, EndsAfter}
use Rattle.partlist.specs.declared.fault.PartFault.{PartFault}
use Rattle.partlist.specs.declared.fault.PartFault.TheVariants.{NotAPart, BytesMissing, Overlaps, NotWhole}

-- the line describes this part
abbrev pub TellsPart : List ℕ → PartValue → Type 0
TellsPart line part = (value : List ℕ) × LineTells line part.first_chunk part.len value
    × (part.value ≡ words 4 8 value)

-- each line describes its part
abbrev pub AllTell : List (List ℕ) → List PartValue → Type 0
AllTell lines parts = AllZip TellsPart lines parts

-- how many bytes parts have together
abbrev pub bytes_of : List PartValue → ℕ
bytes_of [] = 0
bytes_of (part ∷ parts) = part.len + bytes_of parts

-- how many bytes the last part has, or n if there are none
abbrev pub last_of : ℕ → List PartValue → ℕ
last_of n [] = n
last_of n (part ∷ parts) = last_of part.len parts

-- a power of two of full chunks
abbrev pub IsWhole : ℕ → Type 0
IsWhole n = (e : ℕ) × (n ≡ 1024 * 2 ^ e)

-- parts that follow n bytes, of which the last part has `last`: each begins where the one before it ends, and follows
-- a whole part
abbrev pub FollowEachOther : ℕ → ℕ → List PartValue → Type 0
FollowEachOther n last [] = ⊤
FollowEachOther n last (part ∷ parts) = (1024 * part.first_chunk ≡ n) × IsWhole last
    × FollowEachOther (n + part.len) part.len parts

-- parts that follow each other from the first chunk on, as if a whole part stood before them
abbrev pub AreInRow : List PartValue → Type 0
AreInRow parts = FollowEachOther 0 1024 parts

-- the bytes, cut into as many pieces, have the parts' chaining values
abbrev pub AreValuesOf : List PartValue → List ℕ → Type 0
AreValuesOf [] m = m ≡ []
AreValuesOf (part ∷ parts) m = (x : List ℕ) × (rest : List ℕ) × (m ≡ x ++ rest)
    × IsValueOf hash_parameters part x × AreValuesOf parts rest

-- what is wrong with a line that follows these parts
abbrev pub IsWrongBehind : List PartValue → List ℕ → PartFault → Type 0
IsWrongBehind parts line NotAPart = (part : PartValue) → TellsPart line part → ⊥
IsWrongBehind parts line BytesMissing = (part : PartValue) × TellsPart line part
    × (bytes_of parts < 1024 * part.first_chunk)
IsWrongBehind parts line Overlaps = (part : PartValue) × TellsPart line part
    × (1024 * part.first_chunk < bytes_of parts)
IsWrongBehind parts line NotWhole = (part : PartValue) × TellsPart line part
    × (1024 * part.first_chunk ≡ bytes_of parts) × (IsWhole (last_of 1024 parts) → ⊥)

-- after these parts come lines that describe parts, and then the line with this number, which has this fault
abbrev pub StopsAt : List ℕ → List PartValue → ℕ → PartFault → Type 0
StopsAt text parts number fault = (before : List (List ℕ)) × (line : List ℕ) × (after : List (List ℕ))
    × (told : List PartValue) × (lines text ≡ before ++ line ∷ after) × (number ≡ length before + 1)
    × AllTell before told × AreInRow (parts ++ told) × IsWrongBehind (parts ++ told) line fault

-- as many bytes as were asked for, if any were
abbrev pub IsAsked : Option ℕ → ℕ → Type 0
IsAsked bytes n = IfSome bytes (λ asked. n ≡ asked)

-- why parts in a row are no whole file, of as many bytes as were asked for, if any were
abbrev pub EndsWrong : List PartValue → Option ℕ → EndFault → Type 0
EndsWrong parts asked NoParts = parts ≡ []
EndsWrong parts asked Alone = length parts ≡ 1
EndsWrong parts asked (EndsAfter n) = (1 < length parts) × (n ≡ bytes_of parts) × (IsAsked asked n → ⊥)
