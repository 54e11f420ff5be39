-- A run over what a name gives, by where that is from.
use Rattle.std.proofs.lemmas.Grind.{common_steps}
use Rattle.std.proofs.Common.{◌≡◌, ◌∙◌, ℕ, List, drop, Option, Some, IfSome, Result, refl, sym, ap, subst, arith, false}
use Rattle.std.proofs.Common.{Bool, true, if◌then◌else◌}
use Rattle.std.specs.Prelude.{IsErrAnd}
use Rattle.request.specs.CommandLine.{Text}
use Rattle.source.specs.Counts.{count_after}
use Rattle.source.specs.Written.{Shown}
use Rattle.sumlist.specs.Report.{Files}
use Rattle.command.specs.Lines.{content_of, is_input}
use Rattle.command.specs.Run.{Run}
use Rattle.command.specs.inside.Places.{HoldsFile}
use Rattle.command.specs.inside.Seen.{DoesBeside, LostOf}
use Rattle.command.specs.inside.Troubles.{Counted, Failures, MayFail, MayRefuse, Trouble, failures_from, failures_of}
use Rattle.command.specs.inside.Troubles.{plus, refusal, too_long, trouble_of}
use Rattle.command.specs.declared.fault.Fault.{Fault}
use Rattle.command.proofs.Reading.{known}
use Rattle.command.proofs.Refused.{Counted-input, Counted-named, Does-refused, counts-replicate, pair}
use Rattle.command.proofs.TakenParts.{unopened}

-- failures of a file alone
pub plus_none : (f : Failures) → f ≡ plus (failures_from false 0) f
plus_none f = pair (omega arith) (omega arith)

-- what a name of a file gives
content_is : (name : Text) (input : List ℕ) (files : Files) → is_input name ≡ false
    → content_of name input files ≡ files name
content_is name input files is = ap (λ (b : Bool). if b then Some input else files name) is

-- the same run, of whose other failures more is known
pub beside_then : {is : Run → Type 0} {r : Result ℕ Fault} {old new : Shown} {i j : ℕ} {P Q : Failures → Type 0}
    → DoesBeside is r old new i j P → ((f : Failures) → P f → Q f) → DoesBeside is r old new i j Q
beside_then d step = grind (arith, common_steps)

pub still_held : {tree after : Option Files} {name : Text} {content : Option (List ℕ)} → after ≡ tree
    → HoldsFile tree name content → HoldsFile after name content
still_held kept (files, is, same) = (files, kept ∙ is, same)

module _ (is : Option (List ℕ) → Run → Type 0) (name : Text) (first : Option (List ℕ)) (tree : Option Files)
    (r : Result ℕ Fault) (old new : Shown) (i j : ℕ) where
  -- what is to be shown of it
  abbrev pub Named : (u v w x : ℕ) → Type 0
  Named u v w x = IfSome first (λ input. IfSome tree (λ files. DoesBeside (is (content_of name input files)) r old new
      i j (λ f. Counted f u v w x)))

  counted_by : (content : Option (List ℕ)) (a b u v w x : ℕ) → DoesBeside (is content) r old new i j (LostOf name a b)
      → ((n : ℕ) → b ≡ count_after a n → Counted (failures_from (is_input name) n) u v w x)
      → DoesBeside (is content) r old new i j (λ f. Counted f u v w x)
  counted_by content a b u v w x d count = beside_then d (λ f lost. rw (lost.1) (count lost.0 lost.2))

  -- from standard input
  pub of_input : (u v w : ℕ) → is_input name ≡ true
      → ((m : List ℕ) → first ≡ Some m → DoesBeside (is (Some m)) r old new i j (LostOf name u v)) → Named u v w w
  of_input u v w named does = grind (arith, common_steps, known, counted_by, Counted-input)

  -- from a file, whether it is there or not
  pub of_file : (h u v : ℕ) → is_input name ≡ false
      → ((content : Option (List ℕ)) → HoldsFile tree name content
      → DoesBeside (is content) r old new i j (LostOf name u v)) → Named h h u v
  of_file h u v away does = grind (arith, common_steps, known, counted_by, content_is, Counted-named)

  -- from a file that was opened
  pub of_opened : (h u v w a b : ℕ) (coming : Option (List ℕ)) → is_input name ≡ false
      → IfSome tree (λ files. (m : List ℕ) × (files name ≡ Some m) × (coming ≡ Some (drop 0 m)))
      → IfSome tree (λ files. w ≡ count_after u 0)
      → ((m : List ℕ) → coming ≡ Some m → HoldsFile tree name (Some m)
      → DoesBeside (is (Some m)) r old new i j (LostOf name a b))
      → ((n : ℕ) → w ≡ count_after u 0 → b ≡ count_after a n → v ≡ count_after u n) → Named h h u v
  of_opened h u v w a b coming away opened quiet does count = grind
      (arith, common_steps, known, content_is, counted_by, Counted-named)

  -- from a file that was not
  pub of_none : ((b : Bool) (content : Option (List ℕ)) (t : Trouble) → b ≡ is_input name → MayFail name (λ _. ⊥) t
      → is content (refusal b content t)) → (h u v : ℕ) (f : Fault) → is_input name ≡ false
      → IfSome tree (λ files. MayRefuse 0 name (files name) (trouble_of f) × (trouble_of f ≡ too_long name → ⊥))
      → IfSome tree (λ files. v ≡ count_after u (failures_of false (files name) (trouble_of f)).files)
      → IsErrAnd r (λ g. g ≡ f) → new ≡ old → j ≡ i → Named h h u v
  of_none unread h u v f away may lost stopped none quiet = known first (λ input q. known tree (λ files t.
      let content = files name in
      let why = rw t at may in
      subst (λ c. DoesBeside (is c) r old new i j (λ f. Counted f h h u v)) (sym (content_is name input files away))
      (record {
        run = refusal false content (trouble_of f);
        is_run = unread false content (trouble_of f) (sym away) (unopened name content (trouble_of f) why.0 why.1);
        does = Does-refused (trouble_of f) _ f r old new stopped refl none;
        quiet = refl;
        listed = 0;
        lost = failures_of false content (trouble_of f);
        sum = counts-replicate _ false ∙ plus_none (failures_of false content (trouble_of f));
        list = omega (arith, quiet);
        counted = (omega arith, rw t at lost);
      })))
