-- What was done of an item, by the answer of its run.
use Rattle.std.proofs.lemmas.Grind.{common_steps}
use Rattle.std.proofs.Common.{◌≡◌, ◌≢◌, ◌∙◌, ℕ, List, [], ◌∷◌, ◌++◌, Bool, true, false, Result, Ok, Err, append-nil}
use Rattle.std.proofs.Common.{refl, sym, ap, arith, inl, inr, ◌==◌, subst, not}
use Rattle.std.proofs.lemmas.Bool.Decides.{nat_tests}
use Rattle.std.proofs.lemmas.Result.{err_from_is_err_and}
use Rattle.std.specs.Prelude.{◌&&◌, ◌||◌, IsErrAnd, MatchBool, OnOk}
use Rattle.source.specs.Written.{Done, Shown}
use Rattle.source.proofs.Writing.{Done-after, Failed-after}
use Rattle.command.specs.Run.{Run, Tells, TellsAll, cannot_write, end_of}
use Rattle.command.specs.inside.Items.{Once, Passes, Reports}
use Rattle.command.specs.inside.Seen.{Does}
use Rattle.command.specs.inside.Troubles.{status_of, told, trouble_of}
use Rattle.command.specs.declared.fault.Fault.{Fault}
use Rattle.command.proofs.Telling.{TellsAll-append, TellsAll-one}

not_3 : (n : ℕ) → (n == 3) ≡ false → n ≢ 3
not_3 n h = grind (arith, nat_tests)

-- what ends the run has no empty line
no_line : (goes_on : Bool) (n : ℕ) → (not goes_on || (n == 3)) ≡ true → (goes_on && (n == 1)) ≡ false
no_line goes_on n h = grind (arith, common_steps, nat_tests)

plainly : (c : Bool) (P : Type 0) {Q : Type 0} → Q → MatchBool (c && false) P Q
plainly c P q = grind (arith, common_steps)

abbrev status_by : Fault → ℕ
status_by f = status_of (trouble_of f)

-- a run that is not cut off was printed whole
pub whole : (run : Run) (r : Result ℕ Fault) (a b : Shown) → Does run r a b → (run.ending ≡ Err cannot_write → ⊥)
    → Done a b run.text
whole run r a b does other = grind (arith, common_steps)

module _ {is : Run → Type 0} {counted : List Bool → Type 0} (plain : Run) (a b d e : Shown) (is_one : is plain)
    (counts : counted plain.failures) (reports : TellsAll d e plain.notes) where
  -- the run of an item ends with a status
  pub once_done : (goes_on shared : Bool) (s : ℕ) → (let r : Result ℕ Fault = Ok s in Does plain r a b)
      → (let r : Result ℕ Fault = Ok s in Once is goes_on shared counted r a b d e)
  once_done goes_on shared s does = grind (arith, common_steps, plainly, whole, append-nil)

  module _ (f : Fault) (does : let r : Result ℕ Fault = Err f in Does plain r a b) where
    -- or with a fault that ends the walk
    pub once_last : (goes_on shared : Bool) → (not goes_on || (status_by f == 3)) ≡ true
        → (let r : Result ℕ Fault = Err f in Once is goes_on shared counted r a b d e)
    once_last goes_on shared heavy = grind (arith, common_steps, no_line, plainly)

    -- or with one that is reported
    pub once_passed : (shared : Bool) (r : Result ℕ Fault) (c g : Shown) → Passes shared f r b c e g
        → Once is true shared counted r a c d g
    once_passed shared r c g passes = on (status_by f == 3) refl passes
      where
        answered : (status_by f == 3) ≡ false → (r : Result ℕ Fault) (line : Bool)
            → (shared && (status_by f == 1)) ≡ line
            → Reports line f r b c e g → Once is true shared counted r a c d g
        answered light r line at answers = by r line at answers
          where
            all : Done a b plain.text
            all = whole plain (Err f) a b does (λ cut.
                let three = ap (λ e. (end_of e).0) (sym does.ending ∙ cut) in not_3 (status_by f) light three)

            reported : Tells e g (told (trouble_of f)) → TellsAll d g (plain.notes ++ (end_of plain.ending).1)
            reported tells = TellsAll-append d e g plain.notes (end_of plain.ending).1 reports
                (rw does.ending (TellsAll-one e g _ tells))

            by : (r : Result ℕ Fault) (line : Bool) → (shared && (status_by f == 1)) ≡ line → Reports line f r b c e g
                → Once is true shared counted r a c d g
            by (Ok s) false at (same, done, tells) = record {
              plain = plain;
              is_one = is_one;
              first = plain;
              in_share = rw (does.ending, at) refl;
              counts = counts;
              ends = record {
                light = rw does.ending light;
                status = same ∙ ap (λ e. (end_of e).0) (sym does.ending);
                out = subst (λ t. Done a c t) (append-nil plain.text) (Done-after a b c plain.text [] all done);
                err = reported tells;
              };
            }
            by (Ok s) true at (same, done, tells) = record {
              plain = plain;
              is_one = is_one;
              first = record plain { text = plain.text ++ 10 ∷ [] };
              in_share = rw (does.ending, at) (inl refl);
              counts = counts;
              ends = record {
                light = rw does.ending light;
                status = same ∙ ap (λ e. (end_of e).0) (sym does.ending);
                out = Done-after a b c plain.text (10 ∷ []) all done;
                err = reported tells;
              };
            }
            by (Err h) false at (same, none, failed, err) = absurd (cc)
            by (Err h) true at (same, line, failed, err) = record {
              plain = plain;
              is_one = is_one;
              first = record plain { text = plain.text ++ 10 ∷ []; is_whole = false; ending = Err cannot_write };
              in_share = rw (does.ending, at) (inr refl);
              counts = counts;
              ends = record {
                heavy = refl;
                does = record {
                  ending = rw same refl;
                  out = Failed-after a b c plain.text (10 ∷ []) all failed;
                  cut = λ _. refl;
                };
                err = rw err reports;
              };
            }

        on : (t : Bool) → (status_by f == 3) ≡ t → MatchBool t (IsErrAnd r (λ h. h ≡ f) × (c ≡ b) × (g ≡ e))
            (Reports (shared && (status_by f == 1)) f r b c e g) → Once is true shared counted r a c d g
        on true heavy (stopped, out, err) =
            let at = err_from_is_err_and r stopped in rw (at.1, at.2, out, err) (once_last true shared heavy)
        on false light answers = answered light r (shared && (status_by f == 1)) refl answers

-- what is so of the run of an item
pub once_so : {P Q : Run → Type 0} {goes_on shared : Bool} {counted : List Bool → Type 0} {r : Result ℕ Fault}
    {a b d e : Shown} → ((run : Run) → P run → Q run) → Once P goes_on shared counted r a b d e
    → Once Q goes_on shared counted r a b d e
once_so so o = grind (arith, common_steps)

pub on_ok : {P : Type 0} (r : Result ℕ Fault) → P → OnOk r P
on_ok r p = grind (arith, common_steps)
