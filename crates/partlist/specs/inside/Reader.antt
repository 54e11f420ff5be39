-- What contracts see of a reader of lines, and what was found of the bytes that it reads.
use Rattle.std.specs.Prelude.{◌⊎◌, ◌≡◌, ◌<◌, ℕ, Bool, List, [], ◌∷◌, ◌++◌, MatchBool, MatchOption, MatchResult, Option}
use Rattle.std.specs.Prelude.{false}
use Rattle.std.specs.Prelude.{None, Ok, Err, Result, Some, ⊤, drop, length, take, ◌+◌}
use Rattle.b3.specs.declared.row.PartValue.{PartValue}
use Rattle.sumlist.specs.Lines.{lines}
use Rattle.sumlist.specs.inside.Cut.{HasNo}
use Rattle.partlist.specs.Joined.{IsWrongBehind, TellsPart}
use Rattle.partlist.specs.declared.fault.JoinFault.{JoinFault}
use Rattle.partlist.specs.declared.fault.JoinFault.TheVariants as join
use Rattle.partlist.specs.declared.joining.Joiner.{Joiner}
use Rattle.partlist.specs.declared.reader.Found.{Found}
use Rattle.partlist.specs.declared.reader.Found.TheVariants as found
use Rattle.partlist.specs.declared.reader.PartReader.{PartReader}
use Rattle.partlist.specs.inside.Joiner.{HasJoined}

-- the bytes that it has read and are yet to be taken
abbrev pub ahead : PartReader → List ℕ
ahead r = drop r.start (take r.end r.buffer)

-- of these bytes to come some are ahead now, or there are none
abbrev pub IsAhead : Bool → (old new : List ℕ) → Option (List ℕ) → List ℕ → Type 0
IsAhead has old new rest bytes = (left : List ℕ) × (rest ≡ Some left) × (old ++ bytes ≡ new ++ left)
    × (has ≡ false → old ++ bytes ≡ [])

-- these bytes of a line were held, behind which others are ahead: up to the first LF, or all, or they are too many
abbrev pub TakesLine : {E : Type 0} → (held old items new : List ℕ) → Result Bool E → Type 0
TakesLine held old items new r = MatchResult r
    (λ ended. (front : List ℕ) × HasNo 10 front × (items ≡ held ++ front)
    × MatchBool ended (old ≡ front ++ 10 ∷ new) ((old ≡ front) × (new ≡ [])))
    (λ _. (front : List ℕ) × (more : List ℕ) × HasNo 10 front × (old ≡ front ++ more)
    × (256 < length held + length front))

-- the beginning of a line was read of some bytes, and these are left
abbrev pub IsBegun : (whole left : List ℕ) → Type 0
IsBegun whole left = (front : List ℕ) × HasNo 10 front × (whole ≡ front ++ left)

-- what was found at the beginning of some bytes, of which some are left: this line, one that is too long for that of a
-- part, or nothing
abbrev pub IsFound : Found → (line whole left : List ℕ) → Type 0
IsFound found.Line line whole left = lines whole ≡ line ∷ lines left
IsFound found.Long line whole left = ((long : List ℕ) × (rest : List (List ℕ)) × (lines whole ≡ long ∷ rest)
    × (256 < length long)) × IsBegun whole left
IsFound found.End line whole left = (whole ≡ []) × (left ≡ [])

-- what an answer leaves of some bytes, these ahead and these yet to be read: nothing at the end, the lines behind one
-- that is wrong or what was not read of it, and what was not read of a line in which a read failed
abbrev pub Leaves : (whole ahead left : List ℕ) → Result (Option PartValue) JoinFault → Type 0
Leaves whole ahead left (Ok None) = ahead ++ left ≡ []
Leaves whole ahead left (Ok (Some part)) = ⊤
Leaves whole ahead left (Err join.Read) = (ahead ≡ []) × IsBegun whole left
Leaves whole ahead left (Err (join.Line number fault)) =
    ((line : List ℕ) × (lines whole ≡ line ∷ lines (ahead ++ left))) ⊎ IsBegun whole (ahead ++ left)

-- why the next of these lines was not joined: a read failed, or it can't be
abbrev pub IsStopped : List (List ℕ) → List PartValue → JoinFault → Type 0
IsStopped ls parts join.Read = ⊤
IsStopped ls parts (join.Line number fault) = (line : List ℕ) × (rest : List (List ℕ)) × (ls ≡ line ∷ rest)
    × (number ≡ length parts + 1) × IsWrongBehind parts line fault

-- the part that the first of some lines tells was joined behind these parts, or there was no line, or a fault tells why
-- not; so many bytes are left then
abbrev pub JoinsNext : List ℕ → List PartValue → Joiner → (left : List ℕ) → Result (Option PartValue) JoinFault → Type 0
JoinsNext whole parts joiner left r = MatchResult r
    (λ found. MatchOption found ((whole ≡ []) × HasJoined joiner parts)
    (λ part. (line : List ℕ) × (lines whole ≡ line ∷ lines left) × TellsPart line part
    × HasJoined joiner (parts ++ part ∷ [])))
    (λ fault. IsStopped (lines whole) parts fault)
