-- A text is read from its left: what the reading finds is the form that the text has, and it finds each.
use Rattle.hashes.specs.declared.alg.Alg.TheVariants.{Blake2b, Blake2s}
use Rattle.hashes.specs.declared.alg.TheConstants.{BLAKE2B_LEN, BLAKE2S_LEN}
use Rattle.hashes.specs.Kinds.{alg_kind}
use Rattle.sumlist.proofs.Common.{◌⊎◌, ◌*◌, ◌++◌, ◌<◌, ◌∙◌, ◌∷◌, ◌≡◌, ◌≤◌, Alg, Bool, Decides, Ended, HasForm}
use Rattle.sumlist.proofs.Common.{IsCut, IsInRange, IsLabel, IsMark, Kind, List, None, Ok, Option, Some, [], ap}
use Rattle.sumlist.proofs.Common.{common_steps, arith, bytes_eq-Decides, closing, codes, cond, decimal, decode_of, drop}
use Rattle.sumlist.proofs.Common.{false≢true, inl, inr, length, length-append, nat_tests, refl, subst, sym, digest_len}
use Rattle.sumlist.proofs.Common.{take, take-append-drop, take-append_seam, text, ℕ}
use Rattle.std.proofs.Common.{◌==◌, suc, zero}
use Rattle.std.proofs.Math.Seq.{drop-append-add}
use Rattle.std.proofs.lemmas.Bool.Decides.{Decides-eqb, Decides-or}
use Rattle.std.proofs.lemmas.Fmt.{decimal_injective}
use Rattle.std.proofs.lemmas.List.Elements.{All-head, All-tail}
use Rattle.std.proofs.lemmas.Option.{none-some, option_and_then_some, same_Some}
use Rattle.std.specs.Option.{option_and_then, option_or}
use Rattle.sumlist.specs.inside.Cut.{HasNo}
use Rattle.sumlist.specs.inside.Labels.{IsNumbered, NotEnded, NotNamed, sized_alg}
use Rattle.sumlist.specs.inside.Reading.{TextParts, alg_labelled, alg_told, alg_whole, bytes_told, cut, end_cut}
use Rattle.sumlist.specs.inside.Reading.{told_at, told_by, is_mark, with_tag}
use Rattle.sumlist.proofs.Words.{NotSpace, by_label, digits_word, label_word, no_space}

-- what is told by a test
pub by_test : {A P Q : Type 0} (b : Bool) → Decides b Q → (x y z : A) → (Q → x ≡ z → P) → ((Q → ⊥) → y ≡ z → P)
    → cond b x y ≡ z → P
by_test b d x y z met failed e = grind (arith, common_steps, false≢true)

none_if : {A : Type 0} (o : Option A) → ((x : A) → o ≡ Some x → ⊥) → o ≡ None
none_if o h = grind arith

-- ---- the first space

pub cut-at : (word rest : List ℕ) → HasNo 32 word → cut (word ++ 32 ∷ rest) ≡ Some (word, rest)
cut-at [] rest free = refl
cut-at (c ∷ word) rest free = rw (All-head NotSpace c word free, cut-at word rest (All-tail NotSpace c word free)) refl

pub cut-none : (text : List ℕ) → HasNo 32 text → cut text ≡ None
cut-none [] free = refl
cut-none (c ∷ text) free = rw (All-head NotSpace c text free, cut-none text (All-tail NotSpace c text free)) refl

cut-some : (text : List ℕ) (p : List ℕ × List ℕ) → cut text ≡ Some p → text ≡ p.0 ++ 32 ∷ p.1
cut-some [] p e = grind arith
cut-some (c ∷ text) p e = grind (arith, nat_tests, cut-some text)

-- ---- the number of digits

sized_alg-some : (kind : Option Kind) (n : ℕ) (a : Alg) → sized_alg kind n ≡ Some a
    → (kind ≡ Some (alg_kind a)) × IsInRange a × (n ≡ 2 * digest_len a)
sized_alg-some kind n a e = grind (arith, nat_tests)

sized_alg-is : (k : Option Kind) (n : ℕ) (a : Alg) → k ≡ Some (alg_kind a) → IsInRange a → n ≡ 2 * digest_len a
    → sized_alg k n ≡ Some a
sized_alg-is k n a is r e = rw (is, e) (grind (arith, nat_tests))

-- ---- the label

bytes_told-some : (digits : List ℕ) (most n : ℕ) → bytes_told digits most ≡ Some n
    → (0 < n) × (n ≤ most) × (digits ≡ decimal (8 * n))
bytes_told-some digits zero n e = grind arith
bytes_told-some digits (suc k) n e =
    grind (arith, bytes_told-some digits k n, bytes_eq-Decides digits (decimal (8 * suc k)))

told_once : (m n : ℕ) → m ≤ n → n ≤ 64 → decimal (8 * m) ≡ decimal (8 * n) → m ≡ n
told_once m n fits small e = omega (arith, decimal_injective (8 * m) (8 * n) (omega arith) (omega arith) e)

bytes_told-is : (most n : ℕ) → 0 < n → n ≤ most → most ≤ 64 → bytes_told (decimal (8 * n)) most ≡ Some n
bytes_told-is zero n some fits small = absurd (omega (arith, some, fits))
bytes_told-is (suc k) n some fits small =
    grind (arith, bytes_told-is k n, told_once n (suc k), bytes_eq-Decides (decimal (8 * n)) (decimal (8 * suc k)))

abbrev Named : List ℕ → Alg → Type 0
Named label alg = IsInRange alg × IsLabel label alg

-- a label without a number tells its algorithm
pub alg_whole-some : (l : List ℕ) (a : Alg) → alg_whole l ≡ Some a → Named l a
alg_whole-some l a e = grind (arith, nat_tests, bytes_eq-Decides)

either_told : (o p : Option Alg) (a : Alg) → option_or o p ≡ Some a → (o ≡ Some a) ⊎ (p ≡ Some a)
either_told o p a e = grind arith

module _ (l : List ℕ) (a : Alg) where
  number_told : (of : ℕ → Alg) (front : List ℕ) (most : ℕ)
      → ((n : ℕ) → IsNumbered l front most n → Named l (of n)) → take 8 l ≡ front
      → alg_told of (drop 8 l) most ≡ Some a → Named l a
  number_told of front most named s e =
      grind (arith, common_steps, option_and_then_some, take-append-drop, bytes_told-some, same_Some)

  pub alg_labelled-some : alg_labelled l ≡ Some a → Named l a
  alg_labelled-some e = elim (either_told (alg_whole l) _ a e) [
    | inl whole ↦ alg_whole-some l a whole
    | inr rest ↦
        by_test _ (bytes_eq-Decides (take 8 l) (codes "BLAKE2b-")) _ _ _
        (number_told Blake2b _ _ (λ n h. ((h.0, h.1), inr h.2)))
        (λ _. by_test _ (bytes_eq-Decides (take 8 l) (codes "BLAKE2s-")) _ _ _
        (number_told Blake2s _ _ (λ n h. ((h.0, h.1), inr h.2))) (λ _ is. absurd (none-some a is))) rest
  ]

pub alg_labelled-is : (l : List ℕ) (a : Alg) → IsInRange a → IsLabel l a → alg_labelled l ≡ Some a
alg_labelled-is = by_label (λ l a. alg_labelled l ≡ Some a) (λ k. grind arith)
    (λ n r. ap (option_and_then (λ (k : ℕ). Some (Blake2b k))) (bytes_told-is BLAKE2B_LEN n r.0 r.1 (omega arith)))
    (λ n r. ap (option_and_then (λ (k : ℕ). Some (Blake2s k))) (bytes_told-is BLAKE2S_LEN n r.0 r.1 (omega arith)))

pub alg_labelled-none : (l : List ℕ) → NotNamed l → alg_labelled l ≡ None
alg_labelled-none l none =
    none_if (alg_labelled l) (λ a e. let n = alg_labelled-some l a e in none a n.0 n.1)

-- ---- the end behind a body

end_cut-some : (rest : List ℕ) (n : ℕ) (p : List ℕ × List ℕ) → end_cut n rest ≡ Some p → Ended rest n p.0 p.1
end_cut-some rest n p e = grind (arith, nat_tests, bytes_eq-Decides)

pub end_cut-is : (rest : List ℕ) (n : ℕ) (body digits : List ℕ) → Ended rest n body digits
    → end_cut n rest ≡ Some (body, digits)
end_cut-is rest n body digits e = grind (
  arith,
  common_steps,
  length-append,
  take-append_seam,
  drop-append-add,
  nat_tests,
  bytes_eq-Decides,
)

pub end_cut-none : (rest : List ℕ) (n : ℕ) → NotEnded rest n → end_cut n rest ≡ None
end_cut-none rest n none = none_if (end_cut n rest) (λ p e. none p.0 p.1 (end_cut-some rest n p e))

-- ---- the forms

mark-Decides : (mark : ℕ) → Decides (is_mark mark) (IsMark mark)
mark-Decides mark = Decides-or _ _ (Decides-eqb mark 32) (Decides-eqb mark 42)

pub plain_form : (kind : Option Kind) (ds : List ℕ) (c : ℕ) (a : Alg) (tag body : List ℕ) → IsMark c
    → kind ≡ Some (alg_kind a) → IsInRange a → length ds ≡ 2 * digest_len a → decode_of ds ≡ Ok tag
    → HasForm (ds ++ 32 ∷ c ∷ body) kind a tag body
plain_form kind ds c a tag body m k r s t = (ds, (r, s, t), inl (k, c, m, refl))

pub labelled_form : (kind : Option Kind) (l ds : List ℕ) (a : Alg) (tag body : List ℕ) → IsInRange a → IsLabel l a
    → length ds ≡ 2 * digest_len a → decode_of ds ≡ Ok tag
    → HasForm (l ++ 32 ∷ 40 ∷ (body ++ closing ds)) kind a tag body
labelled_form kind l ds a tag body r n s t = (ds, (r, s, t), inr (l, n, refl))

module _ (kind : Option Kind) where
  with_tag-some : (text : List ℕ) (a : Alg) (digits body : List ℕ) (f : TextParts)
      → ((t : List ℕ) → decode_of digits ≡ Ok t → HasForm text kind a t body) → with_tag a digits body ≡ Some f
      → HasForm text kind f.0 f.1 f.2
  with_tag-some text a digits body f has e = grind arith

  told_at-some : (word rest : List ℕ) (f : TextParts) → told_at kind word rest ≡ Some f
      → HasForm (word ++ 32 ∷ rest) kind f.0 f.1 f.2
  told_at-some word [] f e = absurd (none-some f e)
  told_at-some word (mark ∷ rest) f e =
      by_test (is_mark mark) (mark-Decides mark) _ _ _ (λ marked is.
      option_and_then_some _ (sized_alg kind (length word)) f is (λ a named.
      let n = sized_alg-some kind (length word) a named in
      with_tag-some _ a word rest f (λ t ok. plain_form kind word mark a t rest marked n.0 n.1 n.2 ok)))
      (λ unmarked. by_test (mark == 40) (Decides-eqb mark 40) _ _ _ (λ bracket is.
      option_and_then_some _ (alg_labelled word) f is (λ a named more.
      option_and_then_some _ (end_cut (2 * digest_len a) rest) f more (λ p ends.
      let n = alg_labelled-some word a named in
      let d = end_cut-some rest (2 * digest_len a) p ends in
      with_tag-some _ a p.1 p.0 f
      (λ t ok. rw (bracket, d.0) (labelled_form kind word p.1 a t p.0 n.0 n.1 d.1 ok)))))
      (λ neither is. absurd (none-some f is))) e

  pub told_by-some : (text : List ℕ) (f : TextParts) → told_by kind text ≡ Some f → HasForm text kind f.0 f.1 f.2
  told_by-some text f e = option_and_then_some _ (cut text) f e (λ p is found.
      subst (λ t. HasForm t kind f.0 f.1 f.2) (sym (cut-some text p is)) (told_at-some p.0 p.1 f found))

  -- a text that is cut at its first space
  pub told_by-cut : (text word rest : List ℕ) → IsCut 32 text word rest → told_by kind text ≡ told_at kind word rest
  told_by-cut text word rest c = rw (c.0, cut-at word rest c.1) refl

  pub told_by-is : (text : List ℕ) (a : Alg) (t x : List ℕ) → HasForm text kind a t x
      → told_by kind text ≡ Some (a, t, x)
  told_by-is text a t x (ds, (range, sized, is), inl (kind_is, mark, marked, whole)) =
      told_by-cut text ds (mark ∷ x) (whole, no_space _ (digits_word ds t is))
      ∙ rw ((mark-Decides _).1 marked, sized_alg-is kind (length ds) a kind_is range sized, is) refl
  told_by-is text a t x (ds, (range, sized, is), inr (label, names, whole)) =
      told_by-cut text label _ (whole, no_space _ (label_word label a range names))
      ∙ rw (alg_labelled-is label a range names, end_cut-is _ _ x ds (refl, sized), is) refl
