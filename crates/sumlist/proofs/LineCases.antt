-- Each line is skipped, spells one entry, or is malformed: every part of the meaning of a line can be decided.
use Rattle.hashes.specs.declared.alg.Alg.TheVariants.{Blake2b as blake2b}
use Rattle.hashes.specs.declared.kind.Kind.TheVariants.{Blake2b}
use Rattle.sumlist.proofs.Common.{◌*◌, ◌+◌, ◌∙◌, ◌≡◌, ◌⊎◌, Alg, Fits, HasForm, IsBlank, IsEntry, IsInRange, IsLine}
use Rattle.sumlist.proofs.Common.{IsMalformed, IsUntagged, IsUtf8, Kind, Says, digest_len}
use Rattle.sumlist.proofs.Common.{List, Listing, escaped}
use Rattle.sumlist.proofs.Common.{None, Option, Some, Spells, [], ap, arith, bytes_eq-Decides, core}
use Rattle.sumlist.proofs.Common.{inl, inr}
use Rattle.sumlist.proofs.Common.{length, refl, lead, slice_index, sym, ℕ}
use Rattle.std.proofs.lemmas.Bool.Decides.{Decides-and, Decides-eqb, Decides-like, Decides-ltb, Decides-not, Decides-or}
use Rattle.std.proofs.lemmas.Map.Made.{is_member-Decides}
use Rattle.std.proofs.lemmas.Option.{none-some, same_Some}
use Rattle.std.proofs.lemmas.Str.{IsUtf8-from_is_utf8, is_utf8-from_IsUtf8}
use Rattle.sumlist.specs.Entry.{IsSized}
use Rattle.sumlist.specs.Line.{IsSkipped}
use Rattle.sumlist.specs.inside.Reading.{IsStated, stated}
use Rattle.sumlist.proofs.Either.{Either, either_by}
use Rattle.sumlist.proofs.Stating.{stated-is, stated-some, stated_fit}

name_cases : (digits : ℕ) (name : List ℕ) → Either (IsUtf8 name × Fits digits name)
name_cases digits name = either_by _ (Decides-like _
    (λ p. (p.0, record { nonempty = p.1.0; without_nul = p.1.1.0; within = omega (arith, p.1.1.1) }))
    (λ p. (p.0, (p.1.nonempty, (p.1.without_nul, let within = p.1.within in omega (arith, within)))))
    (Decides-and _ _ (IsUtf8-from_is_utf8 name, is_utf8-from_IsUtf8 name)
    (Decides-and _ _ (Decides-not _ (bytes_eq-Decides name []))
    (Decides-and _ _ (Decides-not _ (is_member-Decides Decides-eqb name 0))
    (Decides-ltb (length (lead name) + digits + 2 + length (escaped name)) 65537)))))

pub line_is : (line : List ℕ) → Either (IsLine line)
line_is line = either_by _ (Decides-like _ (λ p. (p.0, omega (arith, p.1)))
    (λ l. (l.0, let within = l.1 in omega (arith, within)))
    (Decides-and _ _ (Decides-not _ (is_member-Decides Decides-eqb line 10)) (Decides-ltb (length line) 65537)))

blank_cases : (core : List ℕ) → Either (IsBlank core)
blank_cases core = either_by _ (Decides-or _ _ (bytes_eq-Decides core []) (Decides-eqb (slice_index core 0) 35))

abbrev LineCase : List ℕ → Option Kind → Type 0
LineCase line kind = IsSkipped line ⊎ (((e : Listing) × Spells line kind e) ⊎ IsMalformed line kind)

module _ (line : List ℕ) (kind : Option Kind) where
  -- no line spells two entries
  pub spells_one : (d e : Listing) → Spells line kind d → Spells line kind e → d ≡ e
  spells_one d e p q =
      same_Some d e (sym (stated-is kind (core line) d p.form) ∙ stated-is kind (core line) e q.form)

  module _ (k : List ℕ) (is : k ≡ core line) (unskipped : IsSkipped line → ⊥) where
    -- a line whose core states an entry spells it
    pub spells_if : IsLine line → (e : Listing) → IsStated kind k e → Spells line kind e
    spells_if l e s =
        let form = stated-some kind k e s.0 in
        let f = stated_fit k kind e form in
        let i : IsEntry e = record { text = s.1; fits = s.2; sized = (f.0, f.1); bytes = f.2 } in
        record { is_line = l; not_skipped = unskipped; is_entry = i; form = rw is at form }

    stated_if : (e : Listing) → Spells line kind e → IsStated kind k e
    stated_if e s = (ap (stated kind) is ∙ stated-is kind (core line) e s.form, s.is_entry.text, s.is_entry.fits)

    -- and is malformed where its core states none
    pub malformed_if : ((e : Listing) → IsStated kind k e → ⊥) → IsMalformed line kind
    malformed_if none = (unskipped, λ e s. none e (stated_if e s))

    stated_or_not : IsLine line → (o : Option Listing) → stated kind k ≡ o → LineCase line kind
    stated_or_not l None s = inr (inr (malformed_if (λ e one. none-some e (sym s ∙ one.0))))
    stated_or_not l (Some e) s = elim (name_cases (2 * length e.tag) e.name) [
      | inl named ↦ inr (inl (e, spells_if l e (s, named.0, named.1)))
      | inr bad ↦ inr (inr (malformed_if (λ f p. let t = rw (same_Some f e (sym p.0 ∙ s)) at p in bad (t.1, t.2))))
    ]

  pub line_cases : LineCase line kind
  line_cases = elim (line_is line) [
    | inr bad ↦ inr (inr (λ s. bad s.0, λ e p. bad p.is_line))
    | inl l ↦ elim (blank_cases (core line)) [
      | inl blank ↦ inl (l, blank)
      | inr more ↦ stated_or_not (core line) refl (λ s. more s.1) l (stated kind (core line)) refl
    ]
  ]

-- ---- lines without a kind

-- a text whose digits tell another kind is one of BLAKE2b too
form_of_any : (text : List ℕ) (kind : Kind) (a : Alg) (tag body : List ℕ) → IsSized a tag
    → HasForm text (Some kind) a tag body
    → (b : Alg) × IsSized b tag × HasForm text (Some Blake2b) b tag body
form_of_any text kind a tag body sized (ds, s, inl p) =
    let r : IsInRange (blake2b (digest_len a)) = grind arith in
    (blake2b (digest_len a), (r, sized.1), (ds, (r, s.1, s.2), inl (refl, p.1, p.2, p.3)))
form_of_any text kind a tag body sized (ds, s, inr l) = (a, sized, (ds, s, inr l))

says_any : (k : List ℕ) (kind : Kind) (e : Listing) → IsSized e.alg e.tag → Says k (Some kind) e
    → (b : Alg) × IsSized b e.tag × Says k (Some Blake2b) (record e { alg = b })
says_any k kind e sized (inl form) =
    let f = form_of_any k kind e.alg e.tag e.name sized form in (f.0, f.1, inl f.2)
says_any k kind e sized (inr s) =
    let f = form_of_any s.0 kind e.alg e.tag s.1 sized s.3 in
    (f.0, f.1, inr (s.0, s.1, s.2, f.2, s.4))

-- a line that spells an entry of some kind spells one of BLAKE2b
pub spells_any : (line : List ℕ) (kind : Kind) (e : Listing) → Spells line (Some kind) e
    → (d : Listing) × Spells line (Some Blake2b) d × (d.tag ≡ e.tag)
spells_any line kind e s =
    let f = says_any (core line) kind e s.is_entry.sized s.form in (
      record e { alg = f.0 },
      record {
        is_line = s.is_line;
        not_skipped = s.not_skipped;
        is_entry = record { text = s.is_entry.text; fits = s.is_entry.fits; sized = f.1; bytes = s.is_entry.bytes };
        form = f.2;
      },
      refl,
    )

untagged_if : (line : List ℕ) (kind : Option Kind) (e : Listing) → IsMalformed line kind
    → Spells line (Some Blake2b) e → IsUntagged line kind
untagged_if line kind e m s = (m, Blake2b, e, s)

untagged_none : (line : List ℕ) (kind : Option Kind) → ((d : Listing) → Spells line (Some Blake2b) d → ⊥)
    → IsUntagged line kind → ⊥
untagged_none line kind none u = let s = spells_any line u.1 u.2 u.3 in none s.0 s.1

pub untagged_cases : (line : List ℕ) (kind : Option Kind) → IsMalformed line kind → Either (IsUntagged line kind)
untagged_cases line kind m = elim (line_cases line (Some Blake2b)) [
  | inl skipped ↦ absurd (m.0 skipped)
  | inr (inl s) ↦ inl (untagged_if line kind s.0 m s.1)
  | inr (inr bad) ↦ inr (untagged_none line kind bad.1)
]

-- the core of a malformed line states an entry of BLAKE2b where the line is untagged, and only there
module _ (line : List ℕ) (kind : Option Kind) (k : List ℕ) (is : k ≡ core line) (l : IsLine line)
    (m : IsMalformed line kind) where
  pub stated_any : (e : Listing) → IsStated (Some Blake2b) k e → Spells line (Some Blake2b) e
  stated_any e s = spells_if line (Some Blake2b) k is m.0 l e s

  pub untagged_unstated : ((e : Listing) → IsStated (Some Blake2b) k e → ⊥) → IsUntagged line kind → ⊥
  untagged_unstated none = untagged_none line kind (λ e s. none e (stated_if line (Some Blake2b) k is m.0 e s))
