-- The run of `part --verify` by what names give.
use Rattle.std.proofs.lemmas.Grind.{common_steps}
use Rattle.std.proofs.Common.{◌≡◌, ℕ, List, drop, Option, Some, Bool, IfSome, Result, refl, arith, false, inl}
use Rattle.std.specs.Prelude.{IsErrAnd}
use Rattle.hashes.specs.declared.share.Share.{Share}
use Rattle.request.specs.CommandLine.{Text}
use Rattle.source.specs.Counts.{count_after}
use Rattle.source.specs.Written.{Shown}
use Rattle.sumlist.specs.Report.{Files}
use Rattle.command.specs.Lines.{is_input}
use Rattle.command.specs.Verifying.{VerifyRuns}
use Rattle.command.specs.inside.Troubles.{MayFail, MayRefuse, Trouble, failures_of, refusal, too_long, trouble_of}
use Rattle.command.specs.inside.Verifying.{ComparesName}
use Rattle.command.specs.declared.fault.Fault.{Fault}
use Rattle.command.specs.declared.fault.Fault.TheVariants.{OutOfMemory}
use Rattle.command.proofs.Named.{Named}
use Rattle.command.proofs.Reading.{known}
use Rattle.command.proofs.Refused.{unread_by}
use Rattle.command.proofs.TakenParts.{unopened}
use Rattle.command.proofs.Tagging.{Taken, Taken-refused}

-- why the file with the parts was not read
pub parts_unread : (s : Share) (parts name text : Text) (b : Bool) (content : Option (List ℕ)) (t : Trouble)
    → b ≡ is_input name → MayFail name (λ _. ⊥) t → ComparesName s parts name text content (refusal b content t)
parts_unread s parts name text b content t same may = rw same (inl (unread_by (is_input name) name content t may))

-- ---- the file with the lines

module _ (s : Share) (parts name : Text) (first : Option (List ℕ)) (tree : Option Files) (r : Result ℕ Fault)
    (old new : Shown) (u w y : ℕ) where
  abbrev pub Verified : ℕ → Type 0
  Verified v = IfSome first (λ bytes. IfSome tree (λ files.
      Taken (VerifyRuns s parts name files bytes) r old new u v w y))

  refused : (bytes : List ℕ) (files : Files) (f : Fault) → MayFail parts (λ _. ⊥) (trouble_of f)
      → y ≡ count_after w (failures_of false (files parts) (trouble_of f)).files → IsErrAnd r (λ g. g ≡ f) → new ≡ old
      → Taken (VerifyRuns s parts name files bytes) r old new u u w y
  refused bytes files f may lost stopped none = Taken-refused (VerifyRuns s parts name files bytes) false
      (files parts) f r old new u u w y (inl (unread_by false parts (files parts) (trouble_of f) may)) stopped none
      (omega arith, lost)

  -- it is not opened
  pub verified_unopened : (f : Fault)
      → IfSome tree (λ files. MayRefuse 0 parts (files parts) (trouble_of f) × (trouble_of f ≡ too_long parts → ⊥))
      → IfSome tree (λ files. y ≡ count_after w (failures_of false (files parts) (trouble_of f)).files)
      → IsErrAnd r (λ g. g ≡ f) → new ≡ old → Verified u
  verified_unopened f may lost stopped none = known first (λ bytes q. known tree (λ files t.
      let why = rw t at may in
      refused bytes files f (unopened parts (files parts) (trouble_of f) why.0 why.1) (rw t at lost) stopped none))

  -- memory ran out before
  pub verified_unbuffered : IsErrAnd r (λ g. g ≡ OutOfMemory) → new ≡ old → y ≡ w → Verified u
  verified_unbuffered stopped none quiet = known first (λ bytes q. known tree (λ files t.
      refused bytes files OutOfMemory (inl refl) (omega (arith, quiet)) stopped none))

  pub verified_by : (v x z i j : ℕ) (list : Option (List ℕ))
      → IfSome tree (λ files. (m : List ℕ) × (files parts ≡ Some m) × (list ≡ Some (drop 0 m)))
      → IfSome tree (λ files. x ≡ count_after w 0) → i ≡ 0
      → IfSome list (λ text. Named (ComparesName s parts name text) name first tree r old new i j u v x z)
      → y ≡ count_after z j → Verified v
  verified_by v x z i j list opened counted fresh beside closed = grind (arith, common_steps, known, Taken)
