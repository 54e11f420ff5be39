-- What the methods of items did, and what the loop did of one item.
use Rattle.std.specs.Prelude.{◌≡◌, ⊤, ℕ, Bool, false, true, List, [], ◌∷◌, ◌++◌, MatchBool, MatchResult, drop, map}
use Rattle.std.specs.Prelude.{◌&&◌, ◌==◌, IsErrAnd, Option, Result, Some, if◌then◌else◌}
use Rattle.hashes.specs.declared.share.Share.{Share}
use Rattle.request.specs.CommandLine.{Text}
use Rattle.source.specs.Written.{Done, Failed, Shown}
use Rattle.sumlist.specs.Shared.{every}
use Rattle.command.specs.Run.{Run, Tells, TellsAll, end_of, prints, stops}
use Rattle.command.specs.Walks.{InShare, Walk, WalksShare, is_last}
use Rattle.command.specs.inside.Seen.{Does}
use Rattle.command.specs.inside.Troubles.{shown, status_of, told, trouble_of}
use Rattle.command.specs.declared.fault.Fault.{Fault}
use Rattle.command.specs.declared.items.Names.{Names}
use Rattle.command.specs.declared.fault.Fault.TheVariants.{CannotWrite}

-- the next item was moved to, or there is none
abbrev pub MovesOn : {I : Type 0} → List I → Option (List I) → (I → Type 0) → Result Bool Fault → Type 0
MovesOn {I} items now at r = MatchResult r (λ found. MatchBool found
    ((i : I) × (rest : List I) × (items ≡ i ∷ rest) × at i × (now ≡ Some rest)) (items ≡ [])) (λ _. ⊤)

-- one of these runs was done, which only reports a fault
abbrev pub Breaks : (Run → Type 0) → Fault → (List Bool → Type 0) → Type 0
Breaks is fault counted = (failures : List Bool)
    × is (record (stops (shown (trouble_of fault))) { failures = failures }) × counted failures

-- or which only ends
abbrev pub EndsBy : (Run → Type 0) → Result ℕ Fault → (List Bool → Type 0) → Type 0
EndsBy is r counted =
    MatchResult r (λ status. is (prints [] status) × counted []) (λ fault. Breaks is fault counted)

-- the run of an item was done and reported, and the walk goes on
pub record Follows (goes_on : Bool) (first : Run) (s : ℕ) (old new err_old err_new : Shown) : Type 0 where
  pub light : is_last goes_on first.ending ≡ false
  pub status : s ≡ (end_of first.ending).0
  pub out : Done old new first.text
  pub err : TellsAll err_old err_new (first.notes ++ (end_of first.ending).1)

-- or it ends the walk
pub record Halts (goes_on : Bool) (first : Run) (r : Result ℕ Fault) (old new err_old err_new : Shown) : Type 0 where
  pub heavy : is_last goes_on first.ending ≡ true
  pub does : Does first r old new
  pub err : TellsAll err_old err_new first.notes

-- what was done of an item with one of these runs, if there are other shares or not
pub record Once (is : Run → Type 0) (goes_on shared : Bool) (counted : List Bool → Type 0) (r : Result ℕ Fault)
    (old new err_old err_new : Shown) : Type 0 where
  pub plain : Run
  pub is_one : is plain
  pub first : Run
  pub in_share : InShare goes_on shared plain first
  pub counts : counted first.failures
  pub ends : MatchResult r (λ s. Follows goes_on first s old new err_old err_new)
      (λ _. Halts goes_on first r old new err_old err_new)

-- a fault was reported, behind an empty line or not
abbrev pub Reports : Bool → Fault → Result ℕ Fault → Shown → Shown → Shown → Shown → Type 0
Reports line fault r old new err_old err_new = let t = trouble_of fault in MatchResult r
    (λ s. (s ≡ status_of t) × Done old new (if line then 10 ∷ [] else []) × Tells err_old err_new (told t))
    (λ f. (f ≡ CannotWrite) × (line ≡ true) × Failed old new (10 ∷ []) × (err_new ≡ err_old))

-- the fault of an item was, if there are other shares after an empty line, unless it ends the run
abbrev pub Passes : Bool → Fault → Result ℕ Fault → Shown → Shown → Shown → Shown → Type 0
Passes shared fault r old new err_old err_new = let s = status_of (trouble_of fault) in MatchBool (s == 3)
    (IsErrAnd r (λ f. f ≡ fault) × (new ≡ old) × (err_new ≡ err_old))
    (Reports (shared && (s == 1)) fault r old new err_old err_new)

-- a run over a share of items was done, but for reporting what it ends with
abbrev pub DoesWalk : {S I : Type 0} → Bool → Walk S I → Share → S → List I → (List Bool → Type 0) → Result ℕ Fault
    → Shown → Shown → Shown → Shown → Type 0
DoesWalk goes_on w share x items counted r old new err_old err_new = (run : Run)
    × WalksShare goes_on w share x items run
    × Does run r old new × TellsAll err_old err_new run.notes × counted run.failures

-- the account of some of the items of a share, from the first on, was kept
abbrev pub Within : {T I : Type 0} → (List I → T → T → Type 0) → Share → List I → T → T → Type 0
Within {T} {I} keeps share items old new = (done : List I) × (rest : List I)
    × (every share.others share.waiting items ≡ done ++ rest) × keeps done old new

-- the given names to come
abbrev pub names_left : Names → List Text
names_left n = map (λ x. x.now) (drop n.next n.names.now)
