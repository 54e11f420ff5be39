-- The runs of all shares of names, given or in a list, are one run over all of them.
use Rattle.std.proofs.lemmas.Grind.{common_steps}
use Rattle.std.proofs.Common.{◌≡◌, ◌∙◌, ℕ, ◌-◌, ◌^◌, ◌≤◌, List, [], ◌∷◌, Bool, true, false, Some, None, Result, Ok, ap}
use Rattle.std.proofs.Common.{sym, subst, refl, arith, inl, inr}
use Rattle.std.proofs.lemmas.Bool.Decides.{nat_tests}
use Rattle.std.proofs.lemmas.List.FromFn.{length-enumerate_from}
use Rattle.std.specs.Prelude.{◌||◌, MatchBool, ⊤, max}
use Rattle.std.specs.List.{AllByRecursion, enumerate_from, list_any}
use Rattle.request.specs.CommandLine.{Text}
use Rattle.sumlist.specs.Naming.{names}
use Rattle.sumlist.specs.Report.{Files}
use Rattle.command.specs.Hashing.{given, listed}
use Rattle.command.specs.Keying.{LineRuns}
use Rattle.command.specs.Laws.{AreShares, ListedSharesAreRun, SharesAreRun}
use Rattle.command.specs.Lines.{LineRule, is_input}
use Rattle.command.specs.Run.{IsRefused, Prints, Run, end_of, followed}
use Rattle.command.specs.Walks.{Walks, has_no_line, is_last}
use Rattle.command.proofs.Sharing.{IsFree, status, walk_is_shared}

-- a name that is passed over prints nothing
bare_print : (text : Text) (r : Run) → Prints text 0 r → has_no_line true r.ending ≡ true → r.text ≡ []
bare_print text r h none = grind (arith, common_steps)

bare : (l : LineRule) (files : Files) (name : Text) (input : List ℕ) (r : Run)
    → LineRuns None l name name input files r → has_no_line true r.ending ≡ true → r.text ≡ []
bare l files name input r h none = grind (arith, common_steps, bare_print)

-- ---- given names

given_free : (l : LineRule) (files : Files) → IsFree true (given l files) (λ name. is_input name ≡ false)
given_free l files = record {
  free = λ x name run y away step z. let here = rw away at step.0 in (z, rw away (here, refl));
  bare = λ x name run y step none. bare l files name x run step.0 none;
  broken = λ run s b ends. b;
  quiet = λ x status run s e ends. e;
  ends = λ x status. refl;
}

away : (found : List Text) → list_any is_input found ≡ false → AllByRecursion (λ name. is_input name ≡ false) found
away [] none = tt
away (name ∷ found) none =
    let here = neither (is_input name) (list_any is_input found) none in (here.0, away found here.1)
  where
    neither : (a b : Bool) → (a || b) ≡ false → (a ≡ false) × (b ≡ false)
    neither true b h = let wrong : ⊥ = cc in absurd wrong
    neither false b h = (refl, h)

-- a run over them that ends with a trouble has status 3
heavy : (e : Result ℕ (ℕ × Text)) (r : Run) → r.ending ≡ e → is_last true e ≡ true → status r ≡ 3
heavy e r is last = grind (arith, common_steps, nat_tests)

given_ends : (l : LineRule) (files : Files) (shared : Bool) (x : List ℕ) (s : ℕ) (found : List Text) (run : Run)
    → Walks true (given l files) shared x s found run → status run ≤ 1 → run.ending ≡ Ok (status run)
given_ends l files shared x s [] run (inl e) few = rw e refl
given_ends l files shared x s [] run (inr b) few = absurd b
given_ends l files shared x s (name ∷ found) run (inl b) few = absurd b
given_ends l files shared x s (name ∷ found) run (inr (r, first, y, step, in_share, how)) few =
    on (λ rest walks own. given_ends l files shared y (max s (status first)) found rest walks own)
    (is_last true first.ending) refl how
  where
    on : ((rest : Run) → Walks true (given l files) shared y (max s (status first)) found rest → status rest ≤ 1
        → rest.ending ≡ Ok (status rest)) → (b : Bool) → is_last true first.ending ≡ b → MatchBool b (run ≡ first)
        ((rest : Run) × Walks true (given l files) shared y (max s (status first)) found rest
        × (run ≡ followed first rest)) → run.ending ≡ Ok (status run)
    on then true last same =
        let three : status run ≡ 3 = ap status same ∙ heavy first.ending first refl last in
        absurd (omega (arith, three, few))
    on then false light (rest, walks, same) =
        let own : status run ≡ status rest = ap status same in
        ap (λ (q : Run). q.ending) same ∙ then rest walks (omega (arith, own, few)) ∙ ap Ok (sym own)

pub shares_are_run : SharesAreRun
shares_are_run l files found input n shares more none did =
    walk_is_shared true (given l files) (λ name. is_input name ≡ false) (given_free l files) input found
    (away found none) n shares (λ k. status (shares k)) more (λ k within. let d = did k within in
    (d.1, given_ends l files _ input 0 _ (shares k) d.1 d.0))

-- ---- names in a list

refused_ends : (most : ℕ) (from_input : Bool) (name : Text) (m : List ℕ) (r : Run) (s : ℕ)
    → IsRefused most from_input name (Some m) r → r.ending ≡ Ok s → ⊥
refused_ends most from_input name m r s h ends = grind (arith, common_steps)

listed_free : (l : LineRule) (files : Files) (list : Text) (bytes : List ℕ)
    → IsFree true (listed l files list bytes) (λ _. ⊤)
listed_free l files list bytes = record {
  free = λ x i run y any step z. (tt, step);
  bare = λ x i run y step none. on i run step none;
  broken = refused_ends (2 ^ 64 - 1) (is_input list) list bytes;
  quiet = λ x status run s e ends. e;
  ends = λ x status. refl;
}
  where
    on : (i : ℕ × Text) (run : Run) → (listed l files list bytes).step tt i run tt
        → has_no_line true run.ending ≡ true → run.text ≡ []
    on i run (inl (is, runs)) none = bare l files i.1 [] run runs none
    on i run (inr (not_one, is)) none = ap (λ (x : Run). x.text) is

any : {A : Type 0} (xs : List A) → AllByRecursion (λ x. ⊤) xs
any [] = tt
any (x ∷ xs) = (tt, any xs)

pub listed_shares_are_run : ListedSharesAreRun
listed_shares_are_run l files list bytes n shares more did =
    let all = enumerate_from 1 (names bytes) in
    let (run, walks, are) = walk_is_shared true (listed l files list bytes) (λ _. ⊤) (listed_free l files list bytes) tt
    all (any all) n shares (λ k. status (shares k)) more (λ k within.
    let (s, few, ends, runs) = did k within in (runs, ends ∙ ap Ok (sym (ap (λ e. (end_of e).0) ends)))) in
    (run, walks, subst (λ count. AreShares n shares count run) (length-enumerate_from 1 (names bytes)) are)
