-- What the parts of a run that verifies parts answer.
use Rattle.std.specs.Prelude.{◌⊎◌, ◌≡◌, ℕ, ◌+◌, ◌*◌, ◌%◌, ◌^◌, ◌≤◌, List, IsSomeAnd, MatchResult, Option, Result, Some}
use Rattle.std.specs.Prelude.{if◌then◌else◌, length}
use Rattle.std.specs.Str.{bytes_eq}
use Rattle.b3.specs.declared.row.PartValue.{PartValue}
use Rattle.hashes.specs.declared.share.Share.{Share}
use Rattle.request.specs.CommandLine.{Text}
use Rattle.source.specs.Written.{Shown}
use Rattle.sumlist.specs.Lines.{lines}
use Rattle.sumlist.specs.Shared.{every}
use Rattle.sumlist.specs.declared.verdict.Verdict.{Verdict}
use Rattle.sumlist.specs.declared.verdict.Verdict.TheVariants.{Differs, Matches}
use Rattle.command.specs.Lines.{is_input}
use Rattle.command.specs.Run.{IsUnread, Run}
use Rattle.command.specs.Verifying.{Compares, verdict}
use Rattle.command.specs.inside.Seen.{DoesBeside, LostOf}
use Rattle.command.specs.inside.Troubles.{MayFail, trouble_of}
use Rattle.command.specs.declared.fault.Fault.{Fault}

-- a power of two of chunks, in which there is room for a part where it stands
pub record IsRoomOf (part : PartValue) (room : ℕ) : Type 0 where
  pub power : (e : ℕ) × (room ≡ 2 ^ e)
  pub aligned : part.first_chunk % room ≡ 0
  pub enough : part.len ≤ 1024 * room

-- what chaining values make of a part, where all its bytes are there
abbrev pub same_value : (told found : List ℕ) → Verdict
same_value told found = if bytes_eq told found then Matches else Differs

-- the status of a verdict
abbrev pub status_of : Verdict → ℕ
status_of Matches = 0
status_of _ = 1

-- the runs over a share of the parts of what a name gives, where that is had
abbrev pub ComparesName : Share → Text → Text → List ℕ → Option (List ℕ) → Run → Type 0
ComparesName s parts name text content run = IsUnread (is_input name) name content run
    ⊎ IsSomeAnd content (λ m. Compares s parts name text m run)

-- a share of the parts was compared with what a name gives, at most one file was opened for each of them and one more,
-- and what failed was counted
pub record ComparesParts (s : Share) (parts name : Text) (text m : List ℕ) (r : Result ℕ Fault) (old new : Shown)
    (i j k l u v : ℕ) : Type 0 where
  pub compared : DoesBeside (ComparesName s parts name text (Some m)) r old new i j (LostOf name u v)
  pub opened : l ≤ k + (length (every s.others s.waiting (lines text)) + 1)

-- a part was judged by the bytes at its place in these, or they were not had
abbrev pub JudgesAt : PartValue → Text → List ℕ → Result Verdict Fault → Type 0
JudgesAt part name m r =
    MatchResult r (λ v. v ≡ (verdict m part).0) (λ fault. MayFail name (λ _. ⊥) (trouble_of fault))
