-- The lines of a report are those of its shares, one of each in turn.
use Rattle.sumlist.proofs.Common.{common_steps}
use Rattle.std.proofs.Common.{◌≡◌, ◌∙◌, ◌==◌, ◌++◌, ◌+◌, ◌/◌, ◌%◌, ℕ, suc, zero, List, [], ◌∷◌, ap, sym, refl, subst}
use Rattle.std.proofs.Common.{arith, inl, inr}
use Rattle.std.proofs.Common.{Bool, true, false, if◌then◌else◌, Option, Some, None, append_assoc, codes, decimal}
use Rattle.std.proofs.lemmas.Bool.Decides.{nat_tests}
use Rattle.std.proofs.lemmas.List.Elements.{All-append, All-cons, All-nil, All-weaker}
use Rattle.std.proofs.lemmas.List.Sums.{AllPass-from_list_all}
use Rattle.std.specs.Fmt.{digit_glyph, digits, digits_onto}
use Rattle.std.specs.List.{AllByRecursion, flat_map, list_all}
use Rattle.std.specs.Prelude.{not}
use Rattle.sumlist.specs.Escape.{escape_of, escaped}
use Rattle.sumlist.specs.Lines.{lines}
use Rattle.sumlist.specs.Report.{Outcome, foreign, malformed, report_from, skipped, text, told}
use Rattle.sumlist.specs.Shared.{every, shared}
use Rattle.sumlist.specs.declared.verdict.Verdict.{Verdict}
use Rattle.sumlist.specs.declared.verdict.Verdict.TheVariants.{Differs, Matches, Missing, TooLong, Unreadable}
use Rattle.sumlist.specs.inside.Cut.{HasNo}
use Rattle.sumlist.proofs.Cutting.{lines-ended}
use Rattle.sumlist.proofs.InTurn.{before, is_skipped, other_before, put, seen, skipped_before}

-- ---- texts without LF

pub literal : (t : List ℕ) → list_all (λ c. not (c == 10)) t ≡ true → HasNo 10 t
literal t h = grind (arith, common_steps, All-weaker, nat_tests, AllPass-from_list_all)

free_cons : (c : ℕ) (t : List ℕ) → (c == 10) ≡ false → HasNo 10 t → HasNo 10 (c ∷ t)
free_cons c t other free = All-cons (λ x. (x == 10) ≡ false) c t other free

pub free_append : (s t : List ℕ) → HasNo 10 s → HasNo 10 t → HasNo 10 (s ++ t)
free_append s t one other = All-append (λ x. (x == 10) ≡ false) s t one other

free_nil : HasNo 10 []
free_nil = All-nil (λ x. (x == 10) ≡ false)

escape_free : (c : ℕ) → HasNo 10 (escape_of c)
escape_free c = grind (arith, common_steps, literal, free_cons, free_nil)

escaped_free : (name : List ℕ) → HasNo 10 (escaped name)
escaped_free [] = free_nil
escaped_free (c ∷ name) = free_append (escape_of c) (escaped name) (escape_free c) (escaped_free name)

glyph_free : (d : ℕ) → (digit_glyph false d == 10) ≡ false
glyph_free d = grind (arith, common_steps, nat_tests)

digits_free : (k n : ℕ) (after : List ℕ) → HasNo 10 after → HasNo 10 (digits_onto k 10 false n after)
digits_free zero n after free = free
digits_free (suc k) n after free =
    let here = free_cons (digit_glyph false (n % 10)) after (glyph_free (n % 10)) free in
    on (n / 10 == 0) _ _ here (digits_free k (n / 10) (digit_glyph false (n % 10) ∷ after) here)
  where
    on : (b : Bool) (s t : List ℕ) → HasNo 10 s → HasNo 10 t → HasNo 10 (if b then s else t)
    on true s t one other = one
    on false s t one other = other

pub decimal_free : (n : ℕ) → HasNo 10 (decimal n)
unfolding digits
decimal_free n = digits_free 64 n [] free_nil

-- ---- the text of an outcome is a line

pub record Line (t : List ℕ) : Type 0 where
  pub line : List ℕ
  pub is : t ≡ line ++ 10 ∷ []
  pub free : HasNo 10 line

pub line_end : (t : List ℕ) → list_all (λ c. not (c == 10)) t ≡ true → Line (t ++ 10 ∷ [])
line_end t h = record { line = t; is = refl; free = literal t h }

pub line_after : (front t : List ℕ) → HasNo 10 front → Line t → Line (front ++ t)
line_after front t free l = record {
  line = front ++ l.line;
  is = ap (λ s. front ++ s) l.is ∙ sym (append_assoc front l.line (10 ∷ []));
  free = free_append front l.line free l.free;
}

verdict_line : (name : List ℕ) (n : ℕ) (list : Option (List ℕ)) (v : Verdict) → Line (text list n (told name v))
verdict_line name n list Matches = line_after (escaped name) _ (escaped_free name) (line_end (codes ": OK") refl)
verdict_line name n list Differs = line_after (escaped name) _ (escaped_free name) (line_end (codes ": FAILED") refl)
verdict_line name n list Missing = line_after (escaped name) _ (escaped_free name) (line_end (codes ": MISSING") refl)
verdict_line name n list Unreadable =
    line_after (escaped name) _ (escaped_free name) (line_end (codes ": UNREADABLE") refl)
verdict_line name n list TooLong =
    line_after (escaped name) _ (escaped_free name) (line_end (codes ": TOO LONG") refl)

malformed_line : (list : Option (List ℕ)) (n : ℕ) → Line (text list n malformed)
malformed_line None n = line_after (codes "line ") _ (literal (codes "line ") refl)
    (line_after (decimal n) _ (decimal_free n) (line_end (codes ": MALFORMED") refl))
malformed_line (Some list) n = line_after (escaped list) _ (escaped_free list)
    (line_after (codes ": line ") _ (literal (codes ": line ") refl)
    (line_after (decimal n) _ (decimal_free n) (line_end (codes ": MALFORMED") refl)))

text_line : (list : Option (List ℕ)) (n : ℕ) (o : Outcome) → (o ≡ skipped → ⊥) → Line (text list n o)
text_line list n skipped apart = absurd (apart refl)
text_line list n malformed apart = malformed_line list n
text_line None n (foreign l) apart = malformed_line None n
text_line (Some list) n (foreign l) apart = malformed_line (Some list) n
text_line list n (told name v) apart = verdict_line name n list v

-- ---- the lines of a report

-- lines, each with its LF
abbrev pub lined : List (List ℕ) → List ℕ
lined ls = flat_map (λ l. l ++ 10 ∷ []) ls

-- the lines of the report on outcomes, before others: a share prints its own of them
pub record Spoken (list : Option (List ℕ)) (i : ℕ) (os : List Outcome) : Type 0 where
  pub said : List (List ℕ)
  pub free : AllByRecursion (HasNo 10) said
  pub all : (more : List (List ℕ)) → lined (said ++ more) ≡ report_from list i os ++ lined more
  pub own : (n k : ℕ) (more : List (List ℕ)) → let r = shared n k os in
      lined (every n k (said ++ more)) ≡ report_from list i r.0 ++ lined (every n r.1 more)

-- what a share prints of outcomes and of the lines after them
abbrev told_after : Option (List ℕ) → ℕ → ℕ → List (List ℕ) → List Outcome × ℕ → List ℕ
told_after list i n more r = report_from list i r.0 ++ lined (every n r.1 more)

spoken_skipped : (list : Option (List ℕ)) (i : ℕ) (os : List Outcome) → Spoken list (i + 1) os
    → Spoken list i (skipped ∷ os)
unfolding report_from
spoken_skipped list i os r = grind (arith, common_steps, skipped_before)

spoken_other : (list : Option (List ℕ)) (i : ℕ) (o : Outcome) (os : List Outcome) → (o ≡ skipped → ⊥)
    → Spoken list (i + 1) os → Spoken list i (o ∷ os)
unfolding report_from
spoken_other list i o os apart r = record {
  said = l.line ∷ r.said;
  free = (l.free, r.free);
  all = λ more. ap (λ t. t ++ lined (r.said ++ more)) (sym l.is) ∙ ap (λ t. text list i o ++ t) (r.all more)
      ∙ sym (append_assoc (text list i o) (report_from list (i + 1) os) (lined more));
  own = λ n k more. own n k more ∙ ap (told_after list i n more) (sym (other_before n k o os apart));
}
  where
    l : Line (text list i o)
    l = text_line list i o apart

    own : (n k : ℕ) (more : List (List ℕ)) → lined (every n k ((l.line ∷ r.said) ++ more))
        ≡ told_after list i n more (put (seen n k o) (shared n (before n k) os))
    own n zero more =
        let s = shared n n os in
        ap (λ t. t ++ lined (every n n (r.said ++ more))) (sym l.is)
        ∙ ap (λ t. text list i o ++ t) (r.own n n more)
        ∙ sym (append_assoc (text list i o) (report_from list (i + 1) s.0) (lined (every n s.1 more)))
    own n (suc k) more = r.own n k more

pub spoken : (list : Option (List ℕ)) (i : ℕ) (os : List Outcome) → Spoken list i os
unfolding report_from
spoken list i [] = record { said = []; free = tt; all = λ more. refl; own = λ n k more. refl }
spoken list i (o ∷ os) = elim (is_skipped o) [
  | inl is ↦ subst (λ p. Spoken list i (p ∷ os)) (sym is) (spoken_skipped list i os (spoken list (i + 1) os))
  | inr apart ↦ spoken_other list i o os apart (spoken list (i + 1) os)
]

-- ---- lines after one another

pub lines-lined : (ls : List (List ℕ)) → AllByRecursion (HasNo 10) ls → lines (lined ls) ≡ ls
lines-lined [] free = refl
lines-lined (l ∷ ls) (here, free) = ap lines (append_assoc l (10 ∷ []) (lined ls)) ∙ lines-ended l (lined ls) here
    ∙ ap (λ ms. l ∷ ms) (lines-lined ls free)

pub free_append_all : (xs ys : List (List ℕ)) → AllByRecursion (HasNo 10) xs → AllByRecursion (HasNo 10) ys
    → AllByRecursion (HasNo 10) (xs ++ ys)
free_append_all [] ys one other = other
free_append_all (x ∷ xs) ys (here, one) other = (here, free_append_all xs ys one other)

pub free_every : (n k : ℕ) (xs : List (List ℕ)) → AllByRecursion (HasNo 10) xs
    → AllByRecursion (HasNo 10) (every n k xs)
free_every n k [] free = tt
free_every n zero (x ∷ xs) (here, free) = (here, free_every n n xs free)
free_every n (suc k) (x ∷ xs) (here, free) = free_every n k xs free
