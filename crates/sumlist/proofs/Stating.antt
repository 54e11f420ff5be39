-- A core states the entry that its reading finds, and nothing else, and the entry's tag fits its algorithm.
use Rattle.sumlist.proofs.Common.{◌++◌, ◌∙◌, ◌∷◌, ◌≡◌, ◌≤◌, Alg, Bool, HasForm, IsBytes, IsInRange, Kind, List}
use Rattle.sumlist.proofs.Common.{Listing, Option, Some, Says, ap, arith, closing, core, decode_of-ok}
use Rattle.sumlist.proofs.Common.{false, inl, inr, length, length-append, name_of, nat_tests, refl, subst}
use Rattle.sumlist.proofs.Common.{sym, digest_len, text, true, ℕ, common_steps}
use Rattle.std.proofs.lemmas.List.Elements.{All-head}
use Rattle.std.proofs.lemmas.Option.{option_and_then_some, same_Some}
use Rattle.sumlist.specs.inside.Reading.{TextParts, entry_of, told_by, is_slashed, stated, unslashed}
use Rattle.sumlist.proofs.Reading.{told_by-is, told_by-some}
use Rattle.sumlist.proofs.Unescaping.{spelled-unescaped, unescaped-spelled}
use Rattle.sumlist.proofs.Words.{InWord, IsWord, digits_word, label_word}

-- ---- the tag

form_fit : (text : List ℕ) (kind : Option Kind) (a : Alg) (t x : List ℕ) → HasForm text kind a t x
    → IsInRange a × (length t ≡ digest_len a) × IsBytes t
form_fit text kind a t x h = grind (arith, common_steps, decode_of-ok)

pub stated_fit : (core : List ℕ) (kind : Option Kind) (e : Listing) → Says core kind e
    → IsInRange e.alg × (length e.tag ≡ digest_len e.alg) × IsBytes e.tag
stated_fit core kind e s = elim s [ inl p ↦ form_fit _ kind _ _ _ p | inr p ↦ form_fit _ kind _ _ _ p.3 ]

pub form_len : (text : List ℕ) (kind : Option Kind) (a : Alg) (t x : List ℕ) → HasForm text kind a t x
    → length x ≤ length text
form_len text kind a t x h = grind (arith, common_steps, length-append)

-- ---- the core

abbrev pub listing : List ℕ → Alg → List ℕ → Listing
listing name alg tag = record { name = name; alg = alg; tag = tag }

pub entry_of-name : (b : Bool) (f : TextParts) (e : Listing) → entry_of b f ≡ Some e
    → (name_of b f.2 ≡ Some e.name) × (f.1 ≡ e.tag)
entry_of-name b f e is = grind arith

pub no_slash : (word more : List ℕ) → IsWord word → is_slashed (word ++ 32 ∷ more) ≡ false
no_slash word more w = grind (arith, common_steps, All-head, InWord, nat_tests)

module _ (kind : Option Kind) where
  not_slashed : (core : List ℕ) (a : Alg) (t x : List ℕ) → HasForm core kind a t x → is_slashed core ≡ false
  not_slashed core a t x (ds, s, inl (kind_is, mark, marked, whole)) =
      ap is_slashed whole ∙ no_slash ds (mark ∷ x) (digits_word ds t s.2)
  not_slashed core a t x (ds, s, inr (label, names, whole)) =
      ap is_slashed whole ∙ no_slash label (40 ∷ (x ++ closing ds)) (label_word label a s.0 names)

  pub unslashed-plain : (core : List ℕ) → is_slashed core ≡ false → unslashed core ≡ core
  unslashed-plain core e = grind arith

  pub stated-is : (core : List ℕ) (e : Listing) → Says core kind e → stated kind core ≡ Some e
  stated-is core e (inl p) =
      let plain = not_slashed core e.alg e.tag e.name p in
      rw (plain, unslashed-plain core plain, told_by-is kind core e.alg e.tag e.name p) refl
  stated-is core e (inr q) = ap (stated kind) q.2
      ∙ rw (told_by-is kind q.0 e.alg e.tag q.1 q.3, unescaped-spelled q.1 e.name q.4) refl

  stated_by : (core : List ℕ) (a : Alg) (t x name : List ℕ) → HasForm (unslashed core) kind a t x → (b : Bool)
      → is_slashed core ≡ b → name_of b x ≡ Some name → Says core kind (listing name a t)
  stated_by core a t x name p true is n = inr (unslashed core, x, grind (arith, nat_tests), p, spelled-unescaped x _ n)
  stated_by core a t x name p false is n =
      inl (rw (same_Some x name n) at (rw (unslashed-plain core is) at p))

  pub stated-some : (core : List ℕ) (e : Listing) → stated kind core ≡ Some e → Says core kind e
  stated-some core e s = option_and_then_some _ (told_by kind (unslashed core)) e s (λ f form more.
      option_and_then_some _ (name_of (is_slashed core) f.2) e more (λ name named same.
      subst (Says core kind) (same_Some (listing name f.0 f.1) e same)
      (stated_by core f.0 f.1 f.2 name (told_by-some kind (unslashed core) f form) (is_slashed core) refl named)))

  -- what the reading finds step by step
  pub stated-form : (core : List ℕ) {text : List ℕ} {b : Bool} {f : TextParts}
      → (b ≡ is_slashed core) × (text ≡ unslashed core) → told_by kind text ≡ Some f → stated kind core ≡ entry_of b f
  stated-form core {b} split e = rw (sym split.0, sym split.1, e) refl
