-- Each line of a list is skipped, one entry, malformed with a look, or malformed, whatever its entries are.
use Rattle.std.proofs.Common.{arith}
use Rattle.hashes.specs.declared.kind.Kind.TheVariants.{Blake2b}
use Rattle.sumlist.proofs.Common.{◌≡◌, ◌∙◌, ◌⊎◌, IsEntryIn, IsForeign, IsMalformed, IsUntagged, Kind, List, Listing}
use Rattle.sumlist.proofs.Common.{Meaning, None, Option, Some, Spells, ap, inl, inr, keyed, length, refl, sym, unkeyed}
use Rattle.sumlist.proofs.Common.{ℕ, common_steps}
use Rattle.std.specs.Prelude.{MatchOption}
use Rattle.std.proofs.lemmas.Bool.Decides.{Decides-eqb}
use Rattle.sumlist.specs.Line.{IsSkipped}
use Rattle.sumlist.specs.Report.{look_of}
use Rattle.sumlist.specs.declared.look.Look.{Look}
use Rattle.sumlist.specs.declared.look.Look.TheVariants.{Digest}
use Rattle.sumlist.proofs.Either.{either_by}
use Rattle.sumlist.proofs.LineCases.{line_cases, line_is, spells_any, spells_one, untagged_cases}

-- the line is none of these
abbrev pub IsNone : Meaning → List ℕ → Type 0
IsNone m line =
    (IsSkipped line → ⊥) × ((e : Listing) → IsEntryIn m line e → ⊥) × ((l : Look) → IsForeign m line l → ⊥)

abbrev MeaningCase : Meaning → List ℕ → Type 0
MeaningCase m line =
    IsSkipped line ⊎ (((e : Listing) × IsEntryIn m line e) ⊎ (((l : Look) × IsForeign m line l) ⊎ IsNone m line))

-- ---- looks

-- a line of no look by its bytes looks so, or its bytes look so
abbrev Looks : List ℕ → Option Look → Look → Type 0
Looks line by_bytes look = MatchOption by_bytes
    ((other : Kind) × (e : Listing) × Spells line (Some other) e × (look ≡ Digest (length e.tag))) (λ l. look ≡ l)

module _ (line : List ℕ) where
  looks_some : (kind : Option Kind) → IsMalformed line kind → (o : Option Look)
      → ((l : Look) × Looks line o l) ⊎ ((l : Look) → Looks line o l → ⊥)
  looks_some kind bad (Some l) = inl (l, refl)
  looks_some kind bad None = elim (untagged_cases line kind bad) [
    | inl u ↦ inl (Digest (length u.2.tag), (u.1, u.2, u.3, refl))
    | inr other ↦ inr (λ l t. other (bad, t.0, t.1, t.2))
  ]

  pub looks_one : (o : Option Look) (l k : Look) → Looks line o l → Looks line o k → l ≡ k
  looks_one (Some x) l k p q = p ∙ sym q
  looks_one None l k p q =
      let s = spells_any line p.0 p.1 p.2 in
      let t = spells_any line q.0 q.1 q.2 in
      let same = spells_one line (Some Blake2b) s.0 t.0 s.1 t.1 in
      p.3 ∙ ap (λ tag. Digest (length tag)) (sym s.2 ∙ ap (λ (e : Listing). e.tag) same ∙ t.2) ∙ sym q.3

module _ (line : List ℕ) (n limit : ℕ) (f : List ℕ → List ℕ) where
  -- an untagged line is one of BLAKE2b, whose tag may have another length
  pub keyed_untagged : IsUntagged line None
      → ((e : Listing) × IsEntryIn (keyed n limit f) line e) ⊎ IsNone (keyed n limit f) line
  keyed_untagged u =
      let s = spells_any line u.1 u.2 u.3 in
      elim (either_by _ (Decides-eqb (length s.0.tag) n)) [
        | inl is ↦ inl (s.0, (u, s.1, is))
        | inr other ↦ inr (
          u.0.0,
          λ e t. other (rw (spells_one line (Some Blake2b) e s.0 t.1 s.1) at t.2),
          λ l t. u.0.1 t.0 t.1,
        )
      ]

  pub keyed_other : IsMalformed line None → (IsUntagged line None → ⊥) → IsNone (keyed n limit f) line
  keyed_other bad other = (bad.0, λ e t. other t.0, λ l t. bad.1 t.0 t.1)

  keyed_cases : MeaningCase (keyed n limit f) line
  keyed_cases = elim (line_cases line None) [
    | inl s ↦ inl s
    | inr (inl s) ↦ inr (inr (inl (Digest (length s.0.tag), (s.0, s.1, refl))))
    | inr (inr bad) ↦ elim (untagged_cases line None bad) [
      | inl u ↦ elim (keyed_untagged u) [ inl s ↦ inr (inl s) | inr none ↦ inr (inr (inr none)) ]
      | inr other ↦ inr (inr (inr (keyed_other bad other)))
    ]
  ]

pub meaning_cases : (m : Meaning) (line : List ℕ) → MeaningCase m line
meaning_cases (unkeyed kind) line = elim (line_cases line kind) [
  | inl s ↦ inl s
  | inr (inl s) ↦ inr (inl s)
  | inr (inr bad) ↦ elim (line_is line) [
    | inl is ↦ elim (looks_some line kind bad (look_of line)) [
      | inl l ↦ inr (inr (inl (l.0, (is, bad, l.1))))
      | inr none ↦ inr (inr (inr (bad.0, bad.1, λ l t. none l t.2)))
    ]
    | inr long ↦ inr (inr (inr (bad.0, bad.1, λ l t. long t.0)))
  ]
]
meaning_cases (keyed n limit f) line = keyed_cases line n limit f

-- no line is two of these
pub entry_one : (m : Meaning) (line : List ℕ) (d e : Listing) → IsEntryIn m line d → IsEntryIn m line e → d ≡ e
entry_one (unkeyed kind) line d e p q = spells_one line kind d e p q
entry_one (keyed n limit f) line d e p q = spells_one line (Some Blake2b) d e p.1 q.1

pub not_skipped : (m : Meaning) (line : List ℕ) (e : Listing) → IsEntryIn m line e → IsSkipped line → ⊥
not_skipped m line e p s = grind (arith, common_steps)

pub not_foreign : (m : Meaning) (line : List ℕ) (e : Listing) (l : Look) → IsEntryIn m line e → IsForeign m line l → ⊥
not_foreign m line e l p u = grind (arith, common_steps)

pub foreign_unskipped : (m : Meaning) (line : List ℕ) (l : Look) → IsForeign m line l → IsSkipped line → ⊥
foreign_unskipped m line l u s = grind (arith, common_steps)

pub foreign_one : (m : Meaning) (line : List ℕ) (l k : Look) → IsForeign m line l → IsForeign m line k → l ≡ k
foreign_one (unkeyed kind) line l k p q = looks_one line (look_of line) l k p.2 q.2
foreign_one (keyed n limit f) line l k p q =
    p.2 ∙ ap (λ (e : Listing). Digest (length e.tag)) (spells_one line None p.0 q.0 p.1 q.1) ∙ sym q.2
