-- What is asked of the parts of a file, and what is answered.
use Rattle.std.specs.Prelude.{◌⊎◌, ◌≡◌, ℕ, ◌+◌, ◌*◌, ◌^◌, ◌%◌, ◌<◌, ◌≤◌, Bool, List, MatchBool, Option, Some, true}
use Rattle.std.specs.Prelude.{IsErrAnd, IsSomeAnd, MatchResult, Result, drop, length, nat_lt, take}
use Rattle.std.specs.Option.{option_map_or}
use Rattle.b3.specs.declared.row.PartValue.{PartValue}
use Rattle.request.specs.CommandLine.{Text}
use Rattle.source.specs.Counts.{count_after}
use Rattle.sumlist.specs.Report.{Files}
use Rattle.command.specs.inside.Cutting.{TakesPart}
use Rattle.command.specs.inside.Troubles.{MayFail, Trouble, failed_reads, trouble_of}
use Rattle.command.specs.declared.fault.Fault.{Fault}

-- the first of these bytes, where there is such a number, or all
abbrev pub first_bytes : Option ℕ → List ℕ → List ℕ
first_bytes bytes m = option_map_or (λ k. take k m) bytes m

-- a part may be asked for from a chunk on, in a room of so many chunks and of at most so many bytes
pub record IsAsked (first room : ℕ) (bytes : Option ℕ) (run : List ℕ) : Type 0 where
  pub before : first < 2 ^ 54
  pub run_is : (e : ℕ) × (length run ≡ 1024 * 2 ^ e)
  pub room_is : (e : ℕ) × (room ≡ 2 ^ e)
  pub within : length run ≤ 1024 * room
  pub aligned : first % room ≡ 0
  pub some : bytes ≡ Some 0 → first ≡ 0

-- where the next part begins
abbrev pub after_part : ℕ → ℕ → Option ℕ → ℕ
after_part first room bytes = 1024 * first + option_map_or (λ k. k) bytes (1024 * room)

-- it was taken of a name's content, or there is none, or a fault says why that is not known
abbrev pub TakesAt : ℕ → ℕ → Option ℕ → Text → Option (List ℕ) → Result (Option PartValue) Fault → Type 0
TakesAt first room bytes name content r =
    ((m : List ℕ) × (content ≡ Some m) × TakesPart first room name (first_bytes bytes (drop (1024 * first) m)) r)
    ⊎ IsErrAnd r (λ fault. MayFail name (λ _. ⊥) (trouble_of fault))

-- a feed gives what stands from a byte of some content on, or has ended before
abbrev pub GoesOn : Bool → Option (List ℕ) → ℕ → Option (List ℕ) → Type 0
GoesOn has_ended coming i content = (m : List ℕ) × (content ≡ Some m)
    × MatchBool has_ended ((0 < i) × (length m ≤ i)) (coming ≡ Some (drop i m))

-- it has, if this was found where so many bytes were asked for
abbrev pub ends_by : Option PartValue → Option ℕ → Bool
ends_by (Some part) (Some k) = nat_lt part.len k
ends_by found bytes = true

-- files are known, and this is the content of one
abbrev pub HoldsFile : Option Files → Text → Option (List ℕ) → Type 0
HoldsFile tree name content = (files : Files) × (tree ≡ Some files) × (content ≡ files name)

-- the status of a run that has come to a position, where the content ends or goes on with this trouble, or a fault says
-- why that is not known; and what failed was counted
abbrev pub EndsAt : ℕ → ℕ → Text → Trouble → Option (List ℕ) → Result ℕ Fault → (u v : ℕ) → Type 0
EndsAt status position name longer content r u v = MatchResult r
    (λ s. (s ≡ status) × IsSomeAnd content (λ m. length m ≤ position) × (v ≡ count_after u 0))
    (λ fault. (MayFail name (λ _. ⊥) (trouble_of fault)
    × (v ≡ count_after u (failed_reads content (trouble_of fault))))
    ⊎ ((trouble_of fault ≡ longer) × IsSomeAnd content (λ m. position < length m) × (v ≡ count_after u 0)))
