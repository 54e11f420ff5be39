-- A list that is read beside its report: a line's outcome comes before those of the lines that are left.
use Rattle.sumlist.proofs.Common.{◌≡◌, ◌<◌, ◌≤◌, ◌∙◌, ◌+◌, ◌-◌, ◌*◌, ◌^◌, ◌++◌, ◌∷◌, ℕ, List, [], Option, None, Some}
use Rattle.sumlist.proofs.Common.{true, false, append_assoc, append-nil, ap, sym, refl, subst, arith, length, Verdict}
use Rattle.sumlist.proofs.Common.{Bool, Err, IsEntryIn, Listing, Mark, Meaning, Ok, Outcome, Result, Summary}
use Rattle.sumlist.proofs.Common.{IsCounted, escaped, foreign, inl, length-append, lines, lines_of, malformed}
use Rattle.sumlist.proofs.Common.{IfSome, IfSome_then, no_lines, skipped, text, told, with_line, common_steps}
use Rattle.std.specs.Bool.{then_some}
use Rattle.std.specs.Option.{ok_or}
use Rattle.std.specs.List.{AllZip}
use Rattle.std.specs.Borrow.{Bor}
use Rattle.std.specs.Prelude.{MatchOption, option_map}
use Rattle.std.proofs.lemmas.List.Sums.{fold-append}
use Rattle.sumlist.proofs.MeaningCases.{entry_one, foreign_unskipped, not_foreign, not_skipped}
use Rattle.sumlist.proofs.Stepping.{NextTaken, kept-line, same_line}
use Rattle.sumlist.proofs.TakenTexts.{Next, NextVerdict}
use Rattle.sumlist.specs.Line.{IsSkipped}
use Rattle.sumlist.specs.Lines.{IsKept}
use Rattle.sumlist.specs.Report.{IsPossible, report_from, summary_of, verdict_text}
use Rattle.sumlist.specs.declared.look.Look.{Look}
use Rattle.sumlist.specs.declared.summary.Mark.TheVariants.{Foreign, Malformed, Skipped, Told}
use Rattle.sumlist.specs.declared.telling.TellFault.{TellFault}
use Rattle.sumlist.specs.declared.telling.TellFault.TheVariants as fault
use Rattle.sumlist.specs.inside.Marks.{mark_of, outcome_of, part}
use Rattle.sumlist.specs.inside.Stepped.{MarksMalformed}
use Rattle.sumlist.specs.inside.Telling.{Ended, ListBeside, TellCounts, Tells}

-- ---- one line

-- a malformed line with a look has the text of any other
pub same_text : (name : Option (List ℕ)) (n : ℕ) (look : Look) → text name n malformed ≡ text name n (foreign look)
same_text name n look = grind (arith, common_steps)

-- what a report says, of what is left at first and then
abbrev pub NextTold : Meaning → Option (List ℕ) → List ℕ → ℕ → Option (List ℕ) → Option (List ℕ)
    → Result Mark TellFault → Type 0
NextTold m name line n old new r = IfSome old (λ bytes. Tells m name line n bytes new r)

module _ (m : Meaning) (name : Option (List ℕ)) (line : List ℕ) (n : ℕ) where
  -- the line of an entry came
  pub told-entry : (e : Listing) → IsEntryIn m line e → (old new : Option (List ℕ)) (v : Verdict)
      → NextVerdict e.name old new (Some v) → NextTold m name line n old new (Ok (Told v))
  told-entry e s None new v p = tt
  told-entry e s (Some bytes) new v p = (told e.name v, (e, s, refl, inl refl), refl, p.0, p.1, p.2)

  no_entry : (e : Listing) → IsEntryIn m line e → (bytes : List ℕ)
      → ((v : Verdict) (behind : List ℕ) → bytes ≡ (escaped e.name ++ verdict_text v) ++ behind → ⊥)
      → (o : Outcome) (behind : List ℕ) → IsPossible m line o → bytes ≡ text name n o ++ behind → ⊥
  no_entry e s bytes none skipped behind q is = not_skipped m line e s q
  no_entry e s bytes none malformed behind q is = q.1 e s
  no_entry e s bytes none (foreign l) behind q is = not_foreign m line e l s q
  no_entry e s bytes none (told k v) behind q is =
      let same = q.2 ∙ ap (λ (d : Listing). d.name) (entry_one m line q.0 e q.1 s) in
      none v behind (subst (λ x. bytes ≡ (escaped x ++ verdict_text v) ++ behind) same is)

  -- another line came
  pub other-entry : (e : Listing) → IsEntryIn m line e → (old new : Option (List ℕ))
      → NextVerdict e.name old new None → NextTold m name line n old new (Err fault.OtherLine)
  other-entry e s None new p = tt
  other-entry e s (Some bytes) new p = no_entry e s bytes p

  -- the line of a malformed one came
  told-malformed : (mark : Mark) → MarksMalformed m line mark → (old new : Option (List ℕ))
      → Next old (text name n malformed) new true → NextTold m name line n old new (Ok mark)
  told-malformed mark marks None new p = tt
  told-malformed Malformed marks (Some bytes) new p = (malformed, marks, refl, p.0, p.1, p.2)
  told-malformed (Foreign l) marks (Some bytes) new p =
      (foreign l, marks, refl, p.0, rw (same_text name n l) at p.1, p.2)
  told-malformed Skipped marks (Some bytes) new p = absurd marks
  told-malformed (Told v) marks (Some bytes) new p = absurd marks

  unskipped : (mark : Mark) → MarksMalformed m line mark → IsSkipped line → ⊥
  unskipped mark marks s = grind (arith, common_steps, foreign_unskipped)

  entryless : (mark : Mark) → MarksMalformed m line mark → (e : Listing) → IsEntryIn m line e → ⊥
  entryless mark marks e s = grind (arith, common_steps, not_foreign)

  no_malformed : (mark : Mark) → MarksMalformed m line mark → (bytes : List ℕ)
      → ((behind : List ℕ) → bytes ≡ text name n malformed ++ behind → ⊥)
      → (o : Outcome) (behind : List ℕ) → IsPossible m line o → bytes ≡ text name n o ++ behind → ⊥
  no_malformed mark marks bytes none o behind q is = grind (arith, common_steps, unskipped, same_text, entryless)

  other-malformed : (mark : Mark) → MarksMalformed m line mark → (old new : Option (List ℕ))
      → Next old (text name n malformed) new false → NextTold m name line n old new (Err fault.OtherLine)
  other-malformed mark marks old new p = grind (arith, no_malformed)

  -- the line of a malformed one came, or another
  pub malformed-or-other : (mark : Mark) → MarksMalformed m line mark → (old new : Option (List ℕ)) (came : Bool)
      → Next old (text name n malformed) new came
      → NextTold m name line n old new (ok_or (then_some came mark) fault.OtherLine)
  malformed-or-other mark marks old new true p = told-malformed mark marks old new p
  malformed-or-other mark marks old new false p = other-malformed mark marks old new p

-- a fault that is neither one of the list nor one of the count of the report's lines
abbrev pub IsOther : TellFault → Type 0
IsOther f = (f ≡ fault.ListRead → ⊥) × (f ≡ fault.ListTooLong → ⊥) × (f ≡ fault.ReportTooLong → ⊥)

-- a read of the report is no read of the list
pub counts-other : (T : Type 0) (f : TellFault) (old new : ℕ) → TellCounts {T = T} (Err f) old new → IsOther f
counts-other T f old new h = grind (arith, common_steps)

pub counted-more : (mark : Mark) (s u : Summary) → IsCounted mark s u → lines_of u ≡ lines_of s + 1
counted-more mark s u counted = grind arith

-- ---- lines so far

-- one more at the end
zip-snoc : {A B : Type 0} (R : A → B → Type 0) (xs : List A) (ys : List B) (x : A) (y : B) → AllZip R xs ys → R x y
    → AllZip R (xs ++ x ∷ []) (ys ++ y ∷ [])
zip-snoc R [] [] x y p q = (q, tt)
zip-snoc R [] (b ∷ ys) x y p q = absurd p
zip-snoc R (a ∷ xs) [] x y p q = absurd p
zip-snoc R (a ∷ xs) (b ∷ ys) x y p q = (p.0, zip-snoc R xs ys x y p.1 q)

report-snoc : (name : Option (List ℕ)) (os : List Outcome) (n : ℕ) (o : Outcome)
    → report_from name n (os ++ o ∷ []) ≡ report_from name n os ++ text name (n + length os) o
unfolding report_from
report-snoc name [] n o = rw (append-nil (text name n o)) (ap (λ k. text name k o) (omega arith))
report-snoc name (p ∷ os) n o = rw (report-snoc name os (n + 1) o)
    (sym (append_assoc (text name n p) (report_from name (n + 1) os) (text name (n + 1 + length os) o))
    ∙ ap (λ k. (text name n p ++ report_from name (n + 1) os) ++ text name k o) (omega arith))

summary-snoc : (os : List Outcome) (o : Outcome) → summary_of (os ++ o ∷ []) ≡ with_line (summary_of os) o
unfolding summary_of
summary-snoc os o = fold-append with_line no_lines os (o ∷ [])

-- what a report says of a verdict has two bytes at least, and so has each line of it
verdict-size : (v : Verdict) → 2 ≤ length (verdict_text v)
verdict-size v = grind arith

text-size : (name : Option (List ℕ)) (n : ℕ) (o : Outcome)
    → 2 * (1 - part Skipped (mark_of o)) ≤ length (text name n o)
text-size name n o = grind (arith, common_steps, verdict-size, length-append)

-- lines of the bytes of a list were told, and these are left; and so of the report
pub record Beside (m : Meaning) (name : Option (List ℕ)) (list report : List ℕ) (i j : ℕ) (waiting : List (List ℕ))
    (behind : List ℕ) (s : Summary) : Type 0 where
  pub outcomes : List Outcome
  pub before : List (List ℕ)
  pub are : lines list ≡ before ++ waiting
  pub possible : AllZip (IsPossible m) before outcomes
  pub begun : report ≡ report_from name 1 outcomes ++ behind
  pub counted : j + (summary_of outcomes).skipped ≡ i + length outcomes
  pub sum : s ≡ summary_of outcomes
  pub size : length outcomes ≡ lines_of s
  pub same : length before ≡ length outcomes
  pub most : 2 * j + length behind ≤ 2 * i + length report

module _ {m : Meaning} {name : Option (List ℕ)} {list report : List ℕ} {i j : ℕ} {behind : List ℕ} {s : Summary}
    {line : List ℕ} {others : List (List ℕ)} (b : Beside m name list report i j (line ∷ others) behind s) where
  -- the report is long enough for one line more
  size-line : (mark : Mark) (rest : Option (List ℕ)) (t : Tells m name line (lines_of s + 1) behind rest (Ok mark))
      → 2 * (j + (1 - part Skipped mark)) + length t.3 ≤ 2 * i + length report
  size-line mark rest t = grind (arith, common_steps, text-size, length-append)

  -- one line more
  beside-line : (mark : Mark) (rest : Option (List ℕ)) (u : Summary)
      → Tells m name line (lines_of s + 1) behind rest (Ok mark) → IsCounted mark s u
      → (left : List ℕ) × (rest ≡ Some left)
      × Beside m name list report i (j + (1 - part Skipped mark)) others left u
  beside-line mark rest u t counted =
      let os = b.outcomes in
      let o = t.0 in
      let grown : u ≡ summary_of (os ++ o ∷ []) = counted.whole
      ∙ ap (λ x. with_line s (outcome_of x)) (sym t.2) ∙ same_line s o
      ∙ ap (λ x. with_line x o) b.sum ∙ sym (summary-snoc os o) in
      let number : 1 + length os ≡ lines_of s + 1 = omega (arith, b.size) in (
        t.3,
        t.5,
        record {
          outcomes = os ++ o ∷ [];
          before = b.before ++ line ∷ [];
          are = b.are ∙ sym (append_assoc b.before (line ∷ []) others);
          possible = zip-snoc (IsPossible m) b.before os line o b.possible t.1;
          begun = b.begun ∙ ap (λ l. report_from name 1 os ++ l) t.4
              ∙ sym (append_assoc (report_from name 1 os) (text name (lines_of s + 1) o) t.3)
              ∙ ap (λ l. l ++ t.3) (ap (λ k. report_from name 1 os ++ text name k o) (sym number)
              ∙ sym (report-snoc name os 1 o));
          counted = rw (← grown) (grind (arith, b.counted, counted.skipped, b.sum, length-append {A = Outcome}));
          sum = grown;
          size = grind (arith, b.size, length-append {A = Outcome});
          same = omega (arith, b.same, length-append os (o ∷ []), length-append b.before (line ∷ []));
          most = size-line mark rest t;
        },
      )

  -- the report does not have the line next, or it was not read
  fault-ends : (rest : Option (List ℕ)) (f : TellFault) → Tells m name line (lines_of s + 1) behind rest (Err f)
      → IsOther f → Ended m name b.outcomes b.before (line ∷ others) behind rest report i (Err f)
  fault-ends rest f t other = grind (arith, common_steps)

-- what is said of such lines
listed : {m : Meaning} {name : Option (List ℕ)} {list report : List ℕ} {i j : ℕ} {waiting : List (List ℕ)}
    {behind : List ℕ} {s : Summary} (b : Beside m name list report i j waiting behind s) (rest : Option (List ℕ))
    (r : Result Summary TellFault) → Ended m name b.outcomes b.before waiting behind rest report i r
    → ListBeside m name list report i j rest r
listed b rest r ended = grind (arith, common_steps)

-- ---- the list and the report, where they are known

pub record Telling (m : Meaning) (name : Option (List ℕ)) (list report : Option (List ℕ)) (i j : ℕ) (ahead : List ℕ)
    (rest behind : Option (List ℕ)) (s : Summary) : Type 0 where
  pub of : IfSome list (λ bytes. IfSome report (λ text. (left : List ℕ) × (rest ≡ Some left) × (more : List ℕ)
      × (behind ≡ Some more) × Beside m name bytes text i j (lines (ahead ++ left)) more s))

-- what is said of the list in the end
abbrev pub Listed : Meaning → Option (List ℕ) → Option (List ℕ) → Option (List ℕ) → ℕ → ℕ → Option (List ℕ)
    → Result Summary TellFault → Type 0
Listed m name list report i j rest r =
    IfSome list (λ bytes. IfSome report (λ text. ListBeside m name bytes text i j rest r))

module _ {m : Meaning} {name : Option (List ℕ)} where
  none-beside : (list report : List ℕ) (i : ℕ) → Beside m name list report i i (lines list) report no_lines
  unfolding report_from summary_of
  none-beside list report i = record {
    outcomes = [];
    before = [];
    are = refl;
    possible = tt;
    begun = refl;
    counted = omega arith;
    sum = refl;
    size = refl;
    same = refl;
    most = omega arith;
  }

  pub told-none : (list report : Option (List ℕ)) (i : ℕ) → Telling m name list report i i [] list report no_lines
  told-none None report i = record { of = tt }
  told-none (Some bytes) None i = record { of = tt }
  told-none (Some bytes) (Some text) i = record { of = (bytes, refl, text, refl, none-beside bytes text i) }

  module _ {list report : Option (List ℕ)} {i j : ℕ} {ahead : List ℕ} {rest behind : Option (List ℕ)} {s : Summary}
      (t : Telling m name list report i j ahead rest behind s) where
    -- a growth was refused
    pub told-stopped : (end : Option (List ℕ)) → Listed m name list report i j end (Err fault.OutOfMemory)
    told-stopped end = grind (arith, common_steps, IfSome_then, listed)

    -- a line was read, and this was handed out of it
    module _ (kept rest' : Option (List ℕ)) (ahead' : List ℕ) {n : ℕ} (count : n ≡ lines_of s)
        (next : NextTaken kept rest ahead rest' ahead') (line : Option (Bor (List ℕ)))
        (is : MatchOption line (kept ≡ None) (λ l. kept ≡ Some l.now)) where
      -- what the report says of it
      abbrev Says : Option (List ℕ) → Result Mark TellFault → Type 0
      Says end r = (whole : List ℕ) → IsKept (option_map (λ l. l.now) line) whole
          → NextTold m name whole (n + 1) behind end r

      next-line : (left : List ℕ) → rest ≡ Some left → (line : List ℕ) × (more : List ℕ) × IsKept kept line
          × (rest' ≡ Some more) × (lines (ahead ++ left) ≡ line ∷ lines (ahead' ++ more))
      next-line left is = let h = rw is at next in (h.2.0, h.0, h.2.1, h.1, h.2.2)

      said : (r : Result Mark TellFault) (end : Option (List ℕ)) (whole more : List ℕ) → behind ≡ Some more
          → IsKept kept whole → Says end r → Tells m name whole (lines_of s + 1) more end r
      said r end whole more still of says = grind (arith, common_steps, kept-line)

      pub told-fault : (f : TellFault) (end : Option (List ℕ)) → IsOther f → Says end (Err f)
          → Listed m name list report i j end (Err f)
      told-fault f end other says = IfSome_then list t.of (λ _ h. IfSome_then report h (λ _ q.
          let l = next-line q.0 q.1 in
          let b = rw l.4 at q.4 in
          listed b end (Err f) (fault-ends b end f (said (Err f) end l.0 q.2 q.3 l.2 says) other)))

      -- the lines of the report are more than can be counted
      pub told-too-long : (mark : Mark) (end : Option (List ℕ)) → j < 2 ^ 64 → 2 ^ 64 ≤ j + (1 - part Skipped mark)
          → Says end (Ok mark) → Listed m name list report i j end (Err fault.ReportTooLong)
      told-too-long mark end few many says = IfSome_then list t.of (λ _ h. IfSome_then report h (λ _ q.
          let l = next-line q.0 q.1 in
          let b = rw l.4 at q.4 in
          let most = size-line b mark end (said (Ok mark) end l.0 q.2 q.3 l.2 says) in
          let sum = b.sum in
          listed b end (Err fault.ReportTooLong)
          (omega (arith, few, many, most, b.counted, b.size, ap (λ (u : Summary). u.skipped) sum))))

      pub told-line : (mark : Mark) {u : Summary} (end : Option (List ℕ)) {k : ℕ} → k ≡ j + (1 - part Skipped mark)
          → IsCounted mark s u → Says end (Ok mark) → Telling m name list report i k ahead' rest' end u
      told-line mark {u} end up counted says = rw up record {
        of = IfSome_then list t.of (λ _ h. IfSome_then report h (λ _ q.
            let l = next-line q.0 q.1 in
            let b = rw l.4 at q.4 in
            let more = beside-line b mark end u (said (Ok mark) end l.0 q.2 q.3 l.2 says) counted in
            (l.1, l.3, more.0, more.1, more.2)));
      }
