use Rattle.sumlist.proofs.Common.{◌≡◌, refl, List, Option, Err, Result, IsErr, IfSome, IfSome_then}
use Rattle.sumlist.proofs.Common.{MatchResult-from_err, Files, Mark, CheckFault, Meaning, foreign}
use Rattle.sumlist.proofs.Common.{told, arith, ℕ, None, Some, malformed, subst, text}
use Rattle.sumlist.proofs.Common.{AppendsPrefix, LineChecked, Ok}
use Rattle.std.specs.Io.KnownBytes.{Appends}
use Rattle.std.specs.Prelude.{MatchResult, option_map}
use Rattle.sumlist.specs.Lines.{IsKept}
use Rattle.sumlist.specs.declared.look.Look.{Look}
use Rattle.sumlist.specs.declared.summary.Mark.TheVariants.{Foreign, Malformed}
use Rattle.sumlist.specs.inside.Stepped.{MarksMalformed, meaning_of}
use Rattle.source.proofs.Writing.{AppendsPrefix-none}
use Rattle.sumlist.specs.declared.checking.CheckFault.TheVariants.{OutOfMemory}
use Rattle.sumlist.proofs.Deciding.{settled}
use Rattle.sumlist.proofs.Stepping.{IfSome-all}
use Rattle.sumlist.proofs.checking.Checker.check.Goals as goal

-- a malformed line with a look is told as any other
same_text : (name : Option (List ℕ)) (number : ℕ) (look : Look)
    → text name number malformed ≡ text name number (foreign look)
same_text None number look = refl
same_text (Some name) number look = refl

module _ (m : Meaning) (name line : Option (List ℕ)) where
  -- nothing was told of the line: any outcome but unreadable may stand for it
  untold : (r : Option Files) (number : ℕ) (answer : Result Mark CheckFault) (k n : ℕ) (old : Option (List ℕ))
      → IsErr answer → n ≡ k → IfSome r (λ files. (whole : List ℕ) → IsKept line whole
      → LineChecked files m name whole number answer k n old old)
  untold r number answer k n old stopped counted = IfSome-all r (λ files whole _.
      let d = settled files m whole in (
        d.0,
        record { allowed = d.1; counted = omega (arith, d.2) },
        MatchResult-from_err answer _ _ stopped (λ _. AppendsPrefix-none old _),
      ))

module _ (m : Meaning) (name : Option (List ℕ)) (line : List ℕ) where
  -- a malformed line was told, and its mark answered
  marked : (files : Files) (number : ℕ) (mark : Mark) (answer : Result Mark CheckFault) (k n : ℕ)
      (old new : Option (List ℕ)) → MarksMalformed m line mark → n ≡ k
      → MatchResult answer (λ a. (mark ≡ a) × Appends old new (text name number malformed))
      (λ _. AppendsPrefix old new (text name number malformed))
      → LineChecked files m name line number answer k n old new
  marked files number Malformed answer k n old new marks same h =
      (malformed, record { allowed = marks; counted = omega (arith, same) }, h)
  marked files number (Foreign look) answer k n old new marks same h = (
    foreign look,
    record { allowed = marks; counted = omega (arith, same) },
    subst (λ t. MatchResult answer (λ a. (Foreign look ≡ a) × Appends old new t) (λ _. AppendsPrefix old new t))
        (same_text name number look) h,
  )
  marked files number mark answer k n old new marks same h = absurd marks

pub returns-in_err-verdict-in-Ok-Entry-clause-checked : goal.returns-in_err-verdict-in-Ok-Entry-clause-checked
returns-in_err-verdict-in-Ok-Entry-clause-checked g c =
    untold _ (option_map (λ n. n.now) c.args.self.now.name) _ _ c.args.number _ _ _ _
    c.from_residual-in_err-verdict-in-Ok-Entry.ensures.0 c.in_err-verdict-in-Ok-Entry.ensures.counted

pub returns-in_err-write_verdict-in-Ok-Entry-clause-checked :
    goal.returns-in_err-write_verdict-in-Ok-Entry-clause-checked
returns-in_err-write_verdict-in-Ok-Entry-clause-checked g c =
    let verdict = c.in_ok-verdict-in-Ok-Entry in
    let spelled = rw c.in-Ok-Entry.field-0-is at c.in-Ok-Entry.ensures in
    IfSome_then (g.T.Tree.files c.args.tree.now) (rw c.in-Ok-Entry.field-0-is at verdict.ensures.verdict) (λ files a whole kept.
    let same = rw c.in-Some.is at kept in rw same.0 (
      told _ verdict.verdict,
      record { allowed = (c.in-Ok-Entry.entry, spelled, refl, a); counted = verdict.ensures.counted },
      MatchResult-from_err _ _ _ c.from_residual-in_err-write_verdict-in-Ok-Entry.ensures.0
          (λ _. (rw (c.name.ensures.value, c.in-Ok-Entry.field-0-is) at c.in_err-write_verdict-in-Ok-Entry.ensures).1),
    ))

pub returns-in_ok-write_verdict-in-Ok-Entry-clause-checked :
    goal.returns-in_ok-write_verdict-in-Ok-Entry-clause-checked
returns-in_ok-write_verdict-in-Ok-Entry-clause-checked g c =
    let v = c.in_ok-verdict-in-Ok-Entry in
    let spelled = rw c.in-Ok-Entry.field-0-is at c.in-Ok-Entry.ensures in
    let text = (rw (c.name.ensures.value, c.in-Ok-Entry.field-0-is) at c.in_ok-write_verdict-in-Ok-Entry.ensures).1 in
    IfSome_then (g.T.Tree.files c.args.tree.now) (rw c.in-Ok-Entry.field-0-is at v.ensures.verdict) (λ files a whole kept.
    let same = rw c.in-Some.is at kept in rw same.0
    (told _ v.verdict, record { allowed = (_, spelled, refl, a); counted = v.ensures.counted }, (refl, text)))

pub returns-in-Err-OutOfMemory-clause-checked : goal.returns-in-Err-OutOfMemory-clause-checked
returns-in-Err-OutOfMemory-clause-checked g c =
    untold _ (option_map (λ n. n.now) c.args.self.now.name) _ _ c.args.number (Err OutOfMemory) _ _ _ refl refl

pub returns-in_err-write_malformed-in-Err-Malformed-clause-checked :
    goal.returns-in_err-write_malformed-in-Err-Malformed-clause-checked
returns-in_err-write_malformed-in-Err-Malformed-clause-checked g c =
    IfSome-all (g.T.Tree.files c.args.tree.now) (λ files whole kept.
    let same = rw c.in-Some.is at kept in rw same.0 (marked (meaning_of g.M.MakesTag.limit g.M.MakesTag.makes c.args.self.now.entries.now)
    (option_map (λ n. n.now) c.args.self.now.name) _ files c.args.number c.malformed_mark-mark.result
    c.from_residual-in_err-write_malformed-in-Err-Malformed.result _ _ _ _ c.malformed_mark-mark.ensures refl
    (MatchResult-from_err _ _ _ c.from_residual-in_err-write_malformed-in-Err-Malformed.ensures.0
    (λ _. c.in_err-write_malformed-in-Err-Malformed.ensures.1))))

pub returns-in_ok-write_malformed-in-Err-Malformed-clause-checked :
    goal.returns-in_ok-write_malformed-in-Err-Malformed-clause-checked
returns-in_ok-write_malformed-in-Err-Malformed-clause-checked g c =
    IfSome-all (g.T.Tree.files c.args.tree.now) (λ files whole kept.
    let same = rw c.in-Some.is at kept in rw same.0 (marked (meaning_of g.M.MakesTag.limit g.M.MakesTag.makes c.args.self.now.entries.now)
    (option_map (λ n. n.now) c.args.self.now.name) _ files c.args.number c.malformed_mark-mark.result
    (Ok c.malformed_mark-mark.result) _ _ _ _ c.malformed_mark-mark.ensures refl
    (refl, c.in_ok-write_malformed-in-Err-Malformed.ensures.1)))
