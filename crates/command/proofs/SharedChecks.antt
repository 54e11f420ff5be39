-- The runs of all shares of a check are one run.
use Rattle.std.proofs.lemmas.Grind.{common_steps}
use Rattle.std.proofs.Common.{◌≡◌, ◌∙◌, ◌++◌, ℕ, ◌<◌, ◌≤◌, min, max, List, [], ◌∷◌, length, ap, ap₂, sym, refl, subst}
use Rattle.std.proofs.Common.{arith, inl, inr, Bool, true, false, if◌then◌else◌, Option, Some, None, Result, Ok, Err}
use Rattle.std.proofs.Common.{nat_lt}
use Rattle.std.proofs.lemmas.Bool.{cases_lt}
use Rattle.std.specs.List.{AllByRecursion}
use Rattle.std.specs.Prelude.{MatchBool, replicate}
use Rattle.std.specs.Result.{result_map_both}
use Rattle.hashes.specs.declared.share.Share.{Share}
use Rattle.request.specs.CommandLine.{Text}
use Rattle.sumlist.specs.Lines.{lines}
use Rattle.sumlist.specs.Report.{AllAllowed, Files, Meaning, Outcome, report_from, summary_of}
use Rattle.sumlist.specs.Shared.{every, shared}
use Rattle.sumlist.specs.Tally.{is_clean}
use Rattle.sumlist.specs.inside.Cut.{HasNo}
use Rattle.sumlist.proofs.InTurn.{Merged, Moves, all_own, merged, moves}
use Rattle.sumlist.proofs.SharedTally.{bad, bad_below, bad_own, worst}
use Rattle.sumlist.proofs.SharedTexts.{Spoken, free_append_all, free_every, lined, lines-lined, spoken}
use Rattle.task.specs.declared.tasks.Reporting.{Reporting}
use Rattle.command.specs.Checking.{ListRuns, checked, notes_of}
use Rattle.command.specs.Laws.{ChecksAreRun}
use Rattle.command.specs.Lines.{content_of, is_input}
use Rattle.command.specs.Run.{IsRefused, LeftBy, Run, end_of, followed, prints}
use Rattle.command.specs.Walks.{Walks, is_last}
use Rattle.command.proofs.Sharing.{status}

-- ---- runs that report nothing

abbrev pub Quiet : Run → Type 0
Quiet r = r.notes ++ (end_of r.ending).1 ≡ []

-- two lists without an element
nil_both : {A : Type 0} (xs ys : List A) → xs ++ ys ≡ [] → (xs ≡ []) × (ys ≡ [])
nil_both [] ys none = (refl, none)
nil_both (x ∷ xs) ys none = cc

-- the run ends with a status, not with a trouble
abbrev pub Ends : Run → Type 0
Ends r = (s : ℕ) × (r.ending ≡ Ok s)

ends_quiet : (r : Run) → (end_of r.ending).1 ≡ [] → Ends r
ends_quiet r none = grind (arith, common_steps)

pub quiet_ends : (r : Run) → Quiet r → Ends r
quiet_ends r quiet = ends_quiet r (nil_both r.notes (end_of r.ending).1 quiet).1

quiet_rest : (first rest : Run) → Quiet (followed first rest) → Ends first × Quiet rest
quiet_rest first rest quiet = grind (arith, common_steps, nil_both, ends_quiet)

pub stopped : (r : Run) (t : ℕ × Text) → r.ending ≡ Err t → Ends r → ⊥
stopped r t is (s, ends) = cc

-- a run and what follows it, of which the greatest status stands at the end
abbrev and_then : Run → Run → Run
and_then first rest = record (followed first rest) {
  ending = result_map_both (max (status first)) (λ t. t) rest.ending;
}

then_status : (first rest : Run) → Ends rest → status (and_then first rest) ≡ max (status first) (status rest)
then_status first rest h = grind (arith, common_steps, status)

then_ends : (first rest : Run) → Ends rest → Ends (and_then first rest)
then_ends first rest (s, ends) =
    (max (status first) s, ap (result_map_both (max (status first)) (λ t. t)) ends)

-- the run over a name that is refused ends with a trouble
pub refused_stops : (most : ℕ) (b : Bool) (name : Text) (content : Option Text) (stop : Run)
    → IsRefused most b name content stop → Ends stop → ⊥
refused_stops most b name content stop h ends = grind (arith, common_steps, stopped)

-- ---- the run over a list, and those after it

module _ (m : Meaning) (reporting : Reporting) (files : Files) (many : Bool) where
  abbrev pub title : Text → Option Text
  title name = if many then Some name else None

  abbrev pub One : Text → Share → List ℕ → Run → Share → Type 0
  One name s input = ListRuns reporting files m (title name) name s (content_of name input files)

  abbrev pub From : List Text → Share × List ℕ → ℕ → Run → Type 0
  From lists x s run = Walks true (checked m reporting files many) false x s lists run

  abbrev pub Over : List Text → Share → List ℕ → Run → Type 0
  Over lists s input run = From lists (s, input) 0 run

  -- such a run from a status on, and what it is from any other
  record Raised (lists : List Text) (x : Share × List ℕ) (s : ℕ) (run : Run) : Type 0 where
    pub own : ℕ
    pub ends : run.ending ≡ Ok (max s own)
    pub from : (t : ℕ) → From lists x t (record run { ending = Ok (max t own) })

  raised : (lists : List Text) (x : Share × List ℕ) (s : ℕ) (run : Run) → From lists x s run → Ends run
      → Raised lists x s run
  raised [] x s run (inr b) ends = absurd b
  raised [] x s run (inl is) ends = record {
    own = 0;
    ends = ap (λ (r : Run). r.ending) is ∙ ap Ok (omega arith);
    from = λ t. inl (rw is (ap (prints []) (omega arith)));
  }
  raised (name ∷ lists) x s run (inl b) ends = absurd b
  raised (name ∷ lists) x s run (inr (plain, first, y, step, same, how)) ends =
      on (λ rest walks ends. raised lists y (max s (status first)) rest walks ends) (is_last true first.ending) refl how
    where
      on : ((rest : Run) → From lists y (max s (status first)) rest → Ends rest
          → Raised lists y (max s (status first)) rest) → (b : Bool) → is_last true first.ending ≡ b
          → MatchBool b (run ≡ first) ((rest : Run) × From lists y (max s (status first)) rest
          × (run ≡ followed first rest)) → Raised (name ∷ lists) x s run
      on others true last is =
          let own = subst Ends is ends in
          let none : is_last true first.ending ≡ false = ap (is_last true) own.1 in
          let wrong : ⊥ = cc in absurd wrong
      on others false light (rest, walks, is) =
          let r = others rest walks (subst Ends is ends) in record {
            own = max (status first) r.own;
            ends = ap (λ (q : Run). q.ending) is ∙ r.ends ∙ ap Ok (omega arith);
            from = λ t. inr (
              plain,
              first,
              y,
              step,
              same,
              rw light (
                record rest { ending = Ok (max (max t (status first)) r.own) },
                r.from (max t (status first)),
                ap (λ (q : Run). record q { ending = Ok (max t (max (status first) r.own)) }) is
                    ∙ ap (λ e. record (followed first rest) { ending = e }) (ap Ok (omega arith)),
              ),
            );
          }

  -- what the run over a list that is read to its end leaves of standard input
  abbrev pub left_of : Text → List ℕ → List ℕ
  left_of name input = if is_input name then [] else input

  left_is : (name : Text) (input left : List ℕ) (e : Result ℕ (ℕ × Text)) → (s : ℕ) × (e ≡ Ok s)
      → LeftBy (is_input name) e input left → left ≡ left_of name input
  left_is name input left e h leaves = grind (arith, common_steps)

  left_by : (name : Text) (input : List ℕ) (s : ℕ) → LeftBy (is_input name) (Ok s) input (left_of name input)
  left_by name input s = grind (arith, common_steps)

  -- the run of a share over a list that is read to its end
  pub record Listed (name : Text) (s : Share) (content : Option (List ℕ)) (run : Run) (next : Share) : Type 0 where
    pub bytes : List ℕ
    pub is : content ≡ Some bytes
    pub outcomes : List Outcome
    pub allowed : AllAllowed files m (lines bytes) outcomes
    pub text : run.text ≡ report_from (title name) 1 (shared s.others s.waiting outcomes).0
    pub status : status run ≡ bad_own s.others s.waiting outcomes
    pub moved : next ≡ record s { waiting = (shared s.others s.waiting outcomes).1 }

  listed : (name : Text) (s : Share) (content : Option (List ℕ)) (run : Run) (next : Share) → Ends run
      → ListRuns reporting files m (title name) name s content run next → Listed name s content run next
  listed name s content run next ends h = grind (arith, common_steps, refused_stops, status, stopped)

  module _ (n : ℕ) where
    abbrev pub share_at : ℕ → Share
    share_at k = record { others = n; waiting = k }

    -- the run of a share over lists that reports nothing: that over the first, and that over the others
    pub record Head (name : Text) (lists : List Text) (k : ℕ) (input : List ℕ) (run : Run) : Type 0 where
      pub first : Run
      pub next : Share
      pub here : Listed name (share_at k) (content_of name input files) first next
      pub rest : Run
      pub runs : Over lists (share_at (shared n k here.outcomes).1) (left_of name input) rest
      pub quiet : Quiet rest
      pub is : run ≡ and_then first rest

    head : (name : Text) (lists : List Text) (k : ℕ) (input : List ℕ) (run : Run) → Quiet run
        → Over (name ∷ lists) (share_at k) input run → Head name lists k input run
    head name lists k input run quiet (inl b) = absurd b
    head name lists k input run quiet (inr (plain, first, y, step, same, how)) =
        on (is_last true first.ending) refl how
      where
        on : (b : Bool) → is_last true first.ending ≡ b → MatchBool b (run ≡ first) ((rest : Run)
            × From lists y (max 0 (status first)) rest × (run ≡ followed first rest)) → Head name lists k input run
        on true last is =
            let ends = quiet_ends first (subst Quiet is quiet) in
            let none : is_last true first.ending ≡ false = ap (is_last true) ends.1 in
            let wrong : ⊥ = cc in absurd wrong
        on false light (rest, walks, is) =
            let q = quiet_rest first rest (subst Quiet is quiet) in
            let here = listed name (share_at k) (content_of name input files) first y.0 q.0 (rw same step.0) in
            let stays = left_is name input y.1 first.ending q.0 (rw same step.1) in
            let r = raised lists y (max 0 (status first)) rest walks (quiet_ends rest q.1) in record {
              first = first;
              next = y.0;
              here = here;
              rest = record rest { ending = Ok (max 0 r.own) };
              runs = subst (λ s. Over lists s (left_of name input) (record rest { ending = Ok (max 0 r.own) }))
                  here.moved (subst (λ i. Over lists y.0 i (record rest { ending = Ok (max 0 r.own) }))
                  stays (r.from 0));
              quiet = ap (λ (t : List Text). t ++ []) (nil_both rest.notes (end_of rest.ending).1 q.1).0;
              is = is ∙ ap (λ e. record (followed first rest) { ending = e }) (r.ends ∙ ap Ok (omega arith));
            }

    -- one run over lists, and the lines that it prints, of which each share prints its own
    pub record Made (lists : List Text) (input : List ℕ) (shares : ℕ → Run) : Type 0 where
      pub run : Run
      pub ends : Ends run
      pub whole : Over lists (record { others = 0; waiting = 0 }) input run
      pub said : List (List ℕ)
      pub free : AllByRecursion (HasNo 10) said
      pub all : run.text ≡ lined said
      pub own : (k : ℕ) → k ≤ n → (shares k).text ≡ lined (every n k said)
      pub below : (k : ℕ) → k ≤ n → status (shares k) ≤ status run
      pub most : ℕ
      pub most_within : most ≤ n
      pub most_same : status (shares most) ≡ status run

    -- the runs of the shares; any number above n stands for the last
    abbrev pub Did : List Text → List ℕ → (ℕ → Run) → Type 0
    Did lists input shares = (k : ℕ) → Quiet (shares k) × Over lists (share_at (min k n)) input (shares k)

    nothing : (x : Share × List ℕ) (run : Run) → From [] x 0 run → run ≡ prints [] 0
    nothing x run h = grind (arith, common_steps)

    none : (input : List ℕ) (shares : ℕ → Run) → Did [] input shares → Made [] input shares
    none input shares did =
        let is : (k : ℕ) → shares k ≡ prints [] 0 = λ k. nothing (share_at (min k n), input) (shares k)
        (did k).1 in record {
          run = prints [] 0;
          ends = (0, refl);
          whole = inl refl;
          said = [];
          free = tt;
          all = refl;
          own = λ k within. ap (λ (r : Run). r.text) (is k);
          below = λ k within. let same = ap status (is k) in omega (arith, same);
          most = 0;
          most_within = omega arith;
          most_same = ap status (is 0);
        }

    -- a list and others: outcomes of the whole list are merged from those of the shares
    module _ (name : Text) (lists : List Text) (input : List ℕ) (shares : ℕ → Run)
        (heads : (k : ℕ) → Head name lists (min k n) input (shares k)) where
      abbrev bytes : List ℕ
      bytes = (heads 0).here.bytes

      same_bytes : (k : ℕ) → (heads k).here.bytes ≡ bytes
      same_bytes k = let one = (heads k).here.is in let other = (heads 0).here.is in cc

      abbrev outcomes : ℕ → List Outcome
      outcomes k = (heads k).here.outcomes

      all_merged : Merged files m n (lines bytes) outcomes
      all_merged = grind (arith, common_steps, merged, same_bytes)

      abbrev whole : List Outcome
      whole = all_merged.whole

      abbrev turns : Moves n whole
      turns = moves n whole

      within_min : (k : ℕ) → k ≤ n → min k n ≡ k
      within_min k within = omega arith

      -- a share makes the same of them
      own_whole : (k : ℕ) → k ≤ n → shared n (min k n) (outcomes k) ≡ shared n k whole
      own_whole k within = grind (arith, common_steps, within_min)

      -- the share that passes over j entries after the list before its next, and its run over the other lists
      abbrev share_of : ℕ → ℕ
      share_of j = turns.back (min j n)

      abbrev behind : ℕ → Run
      behind j = (heads (share_of j)).rest

      waits : (j : ℕ) → (shared n (min (share_of j) n) (outcomes (share_of j))).1 ≡ min j n
      waits j = grind (arith, common_steps, own_whole)

      did_behind : Did lists (left_of name input) behind
      did_behind j = grind (arith, common_steps, waits)

      -- how many share k passes over
      abbrev waiting : ℕ → ℕ
      waiting k = (shared n k whole).1

      comes : (k : ℕ) → k ≤ n → behind (waiting k) ≡ (heads k).rest
      comes k within = grind (arith, common_steps, within_min)

      -- the lines of the list's report
      abbrev spoken_here : Spoken (title name) 1 whole
      spoken_here = spoken (title name) 1 whole

      share_text : (k : ℕ) → k ≤ n → (shares k).text
          ≡ report_from (title name) 1 (shared n k whole).0 ++ (heads k).rest.text
      share_text k within = grind (arith, common_steps, own_whole)

      share_status : (k : ℕ) → k ≤ n → status (shares k) ≡ max (bad_own n k whole) (status (heads k).rest)
      share_status k within =
          let h = heads k in
          ap status h.is ∙ then_status h.first h.rest (quiet_ends h.rest h.quiet)
          ∙ ap (λ s. max s (status h.rest)) (h.here.status
          ∙ ap (λ (r : List Outcome × ℕ). bad r.0) (own_whole k within))

      -- the run over the whole list
      abbrev all_first : Run
      all_first = let own = shared 0 0 whole in let s = summary_of own.0 in
          record (prints (report_from (title name) 1 own.0) (if is_clean s then 0 else 1)) {
            notes = notes_of reporting m (title name) name s;
            failures = replicate s.unreadable false;
          }

      first_text : all_first.text ≡ report_from (title name) 1 whole
      first_text = ap (λ (r : List Outcome × ℕ). report_from (title name) 1 r.0) (all_own whole)

      first_status : status all_first ≡ bad whole
      first_status = ap (λ (r : List Outcome × ℕ). bad r.0) (all_own whole)

      one_first : One name (record { others = 0; waiting = 0 }) input all_first
          (record { others = 0; waiting = (shared 0 0 whole).1 })
      one_first = grind (arith, common_steps)

      -- and the other lists
      module _ (r : Made lists (left_of name input) behind) where
        abbrev run : Run
        run = and_then all_first r.run

        run_status : status run ≡ max (bad whole) (status r.run)
        run_status = then_status all_first r.run r.ends ∙ ap (λ s. max s (status r.run)) first_status

        rest_text : (k : ℕ) → k ≤ n → (heads k).rest.text ≡ lined (every n (waiting k) r.said)
        rest_text k within = grind (arith, common_steps, comes)

        rest_below : (k : ℕ) → k ≤ n → status (heads k).rest ≤ status r.run
        rest_below k within = subst (λ (x : Run). status x ≤ status r.run) (comes k within)
            (r.below (waiting k) (turns.within k within))

        -- a share whose status is that of the run: one of the list, or one of the other lists
        abbrev Highest : Type 0
        Highest = (k : ℕ) × (k ≤ n) × (status (shares k) ≡ status run)

        highest_here : status r.run ≤ bad whole → Highest
        highest_here less =
            let w = worst n whole in
            let same = w.same in
            let rest = rest_below w.k w.within in
            (w.k, w.within, omega (arith, share_status w.k w.within, same, less, rest, run_status))

        highest_later : bad whole < status r.run → Highest
        highest_later less =
            let k = turns.back r.most in
            let within = turns.back_within r.most r.most_within in
            let most = bad_below n k whole in
            let is : (heads k).rest ≡ behind r.most
            = ap (λ j. (heads (turns.back j)).rest) (sym (within_min r.most r.most_within)) in
            let same = ap status is ∙ r.most_same in
            (k, within, omega (arith, share_status k within, same, less, most, run_status))

        highest : Highest
        highest = grind (arith, common_steps, cases_lt, bad, status, highest_later, highest_here)

        run_over : Over (name ∷ lists) (record { others = 0; waiting = 0 }) input run
        run_over =
            let behind_it = subst (λ w. Over lists (record { others = 0; waiting = w }) (left_of name input) r.run)
            (sym (ap (λ (p : List Outcome × ℕ). p.1) (all_own whole))) r.whole in
            let x : Share × List ℕ = (record { others = 0; waiting = (shared 0 0 whole).1 }, left_of name input) in
            let up = raised lists x 0 r.run behind_it r.ends in
            let s = status all_first in
            inr (
              all_first,
              all_first,
              x,
              (one_first, left_by name input s),
              refl,
              (
                record r.run { ending = Ok (max (max 0 s) up.own) },
                up.from (max 0 s),
                ap (λ e. record (followed all_first r.run) { ending = e })
                    (ap (result_map_both (max s) (λ t. t)) up.ends ∙ ap Ok (omega arith)),
              ),
            )

        together : Made (name ∷ lists) input shares
        together = record {
          run = run;
          ends = then_ends all_first r.run r.ends;
          whole = run_over;
          said = spoken_here.said ++ r.said;
          free = free_append_all spoken_here.said r.said spoken_here.free r.free;
          all = ap₂ (λ (a b : List ℕ). a ++ b) first_text r.all ∙ sym (spoken_here.all r.said);
          own = λ k within. share_text k within
              ∙ ap (λ t. report_from (title name) 1 (shared n k whole).0 ++ t) (rest_text k within)
              ∙ sym (spoken_here.own n k r.said);
          below = λ k within. omega (
            arith,
            share_status k within,
            bad_below n k whole,
            rest_below k within,
            run_status,
          );
          most = highest.0;
          most_within = highest.1;
          most_same = highest.2;
        }

    made : (lists : List Text) (input : List ℕ) (shares : ℕ → Run) → Did lists input shares → Made lists input shares
    made [] input shares did = none input shares did
    made (name ∷ lists) input shares did =
        let heads : (k : ℕ) → Head name lists (min k n) input (shares k)
        = λ k. head name lists (min k n) input (shares k) (did k).0 (did k).1 in
        together name lists input shares heads (made lists (left_of name input)
        (behind name lists input shares heads) (did_behind name lists input shares heads))

-- ---- the law

pub checks_are_run : ChecksAreRun
checks_are_run m reporting files lists input n shares did = (
  r.run,
  r.whole,
  λ k within. (
    subst (λ (x : Run). lines x.text ≡ every n k (lines r.run.text)) (clip k within) (
        ap lines (r.own k within) ∙ lines-lined (every n k r.said) (free_every n k r.said r.free)
        ∙ ap (every n k) (sym (ap lines r.all ∙ lines-lined r.said r.free))),
    subst (λ x. status x ≤ status r.run) (clip k within) (r.below k within),
  ),
  (r.most, r.most_within, ap status (sym (clip r.most r.most_within)) ∙ r.most_same),
)
  where
    r : Made m reporting files (nat_lt 1 (length lists)) n lists input (λ k. shares (min k n))
    r = made m reporting files (nat_lt 1 (length lists)) n lists input (λ k. shares (min k n))
        (λ k. did (min k n) (omega arith))

    clip : (k : ℕ) → k ≤ n → shares (min k n) ≡ shares k
    clip k within = ap shares (omega arith)
