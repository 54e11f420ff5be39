-- Texts that are taken of a report, one after another.
use Rattle.sumlist.proofs.Common.{◌≡◌, ◌<◌, ◌≤◌, ◌+◌, ◌++◌, ◌∷◌, ℕ, List, [], Option, None, Some, IfSome, Bool, true}
use Rattle.sumlist.proofs.Common.{false, append_assoc, arith, drop, take, length, Verdict, Err, Ok, Result}
use Rattle.sumlist.proofs.Common.{length-take-le, slice_index, escaped, common_steps}
use Rattle.std.proofs.Common.{get_or}
use Rattle.std.proofs.lemmas.List.{append_cancel_left, drop_more, get_or-take}
use Rattle.std.proofs.lemmas.Option.{same_Some, none-some}
use Rattle.source.proofs.Writing.{flat_map-drop}
use Rattle.std.specs.Bool.{then_some}
use Rattle.std.specs.List.{flat_map}
use Rattle.std.specs.Prelude.{IfOk, option_map}
use Rattle.sumlist.specs.Report.{verdict_text}
use Rattle.sumlist.specs.inside.Telling.{HasMore, Takes, TakesVerdict}

-- ---- texts

-- whether a text came next, of what is left at first and then
abbrev pub Next : Option (List ℕ) → List ℕ → Option (List ℕ) → Bool → Type 0
Next old t new r = IfSome old (λ bytes. Takes t bytes new r)

pub next-none : (a : Option (List ℕ)) → Next a [] a true
next-none a = grind (arith, common_steps)

next-both : (bytes mid : List ℕ) (new : Option (List ℕ)) (t u : List ℕ) (r : Bool) → bytes ≡ t ++ mid
    → Takes u mid new r → Takes (t ++ u) bytes new r
next-both bytes mid new t u r e q = grind (arith, common_steps, append_assoc, append_cancel_left)

-- the first text came
pub next-then : (old mid new : Option (List ℕ)) (t u : List ℕ) (r : Bool) → Next old t mid true → Next mid u new r
    → Next old (t ++ u) new r
next-then old mid new t u r p q = grind (arith, common_steps, next-both)

-- the first text did not come
pub next-not : (old mid new : Option (List ℕ)) (t u : List ℕ) → Next old t mid false → Next old (t ++ u) new false
next-not old mid new t u p = grind (arith, common_steps, append_assoc)

-- the first text came, and then the second if no read failed
pub next-ok : {E : Type 0} (r : Result Bool E) (old mid new : Option (List ℕ)) (t u : List ℕ) → Next old t mid true
    → IfSome mid (λ bytes. IfOk r (Takes u bytes new)) → IfSome old (λ bytes. IfOk r (Takes (t ++ u) bytes new))
next-ok (Ok b) old mid new t u p q = next-then old mid new t u b p q
next-ok (Err e) None mid new t u p q = tt
next-ok (Err e) (Some bytes) mid new t u p q = tt

-- texts, of which the first so many came
module _ {A : Type 0} (f : A → List ℕ) (xs : List A) (i : ℕ) (x : A) (some : i < length xs)
    (old mid new : Option (List ℕ)) where
  pub texts-then : (r : Bool) → Next old (f (get_or xs i x)) mid true → Next mid (flat_map f (drop (i + 1) xs)) new r
      → Next old (flat_map f (drop i xs)) new r
  texts-then r p q = grind (arith, common_steps, flat_map-drop, next-then, get_or)

  pub texts-not : Next old (f (get_or xs i x)) mid false → Next old (flat_map f (drop i xs)) new false
  texts-not p = grind (arith, common_steps, flat_map-drop, next-not, get_or)

-- ---- what was read, and then the rest

-- bytes and the rest, where that is known
abbrev pub known : List ℕ → Option (List ℕ) → Option (List ℕ)
known ahead rest = option_map (λ bytes. ahead ++ bytes) rest

abbrev pub More : Option (List ℕ) → Option (List ℕ) → Bool → Type 0
More old new r = IfSome old (λ bytes. HasMore bytes new r)

pub ahead-cons : (buffer : List ℕ) (start end : ℕ) → start < end → end ≤ length buffer
    → drop start (take end buffer) ≡ slice_index buffer start ∷ drop (start + 1) (take end buffer)
ahead-cons buffer start end some within = grind (arith, common_steps, drop_more, length-take-le, get_or-take)

-- ---- a byte

module _ (ahead left : List ℕ) (byte : ℕ) (is : ahead ≡ byte ∷ left) where
  -- the bytes that are left begin with it
  first : (bytes : List ℕ) (rest : Option (List ℕ)) → known ahead rest ≡ Some bytes
      → (behind : List ℕ) × (bytes ≡ byte ∷ behind) × (known left rest ≡ Some behind)
  first bytes rest same = grind (arith, common_steps, none-some, same_Some)

  pub byte-taken : (old rest : Option (List ℕ)) → More old (known ahead rest) true
      → Next old (byte ∷ []) (known left rest) true
  byte-taken old rest more = grind (arith, common_steps, first)

  pub byte-other : (old rest new : Option (List ℕ)) (other : ℕ) → More old (known ahead rest) true
      → (byte ≡ other → ⊥) → Next old (other ∷ []) new false
  byte-other old rest new other more apart = grind (arith, common_steps, first)

-- ---- verdicts

-- the text of a verdict, behind its colon, begins with this byte
text-first : (v : Verdict) → drop 2 (verdict_text v) ≡ slice_index (verdict_text v) 2 ∷ drop 3 (verdict_text v)
text-first v = grind (arith, common_steps)

pub text-whole : (v : Verdict) → verdict_text v ≡ 58 ∷ 32 ∷ drop 2 (verdict_text v)
text-whole v = grind (arith, common_steps)

-- the verdict of which the text comes next, without its first two bytes, would be this one
abbrev pub Ahead : Option (List ℕ) → Option (List ℕ) → Option Verdict → Type 0
Ahead old new found = IfSome old (λ bytes. (new ≡ Some bytes) × ((v : Verdict) (rest : List ℕ)
    → bytes ≡ drop 2 (verdict_text v) ++ rest → found ≡ Some v))

pub ahead-first : (ahead left : List ℕ) (byte : ℕ) → ahead ≡ byte ∷ left → (old rest : Option (List ℕ))
    (found : Option Verdict) → More old (known ahead rest) true
    → ((v : Verdict) → slice_index (verdict_text v) 2 ≡ byte → found ≡ Some v) → Ahead old (known ahead rest) found
ahead-first ahead left byte is old rest found more of = grind (arith, common_steps, first, text-first)

-- whether the line of an entry of this name came
abbrev pub NextVerdict : List ℕ → Option (List ℕ) → Option (List ℕ) → Option Verdict → Type 0
NextVerdict name old new found = IfSome old (λ bytes. TakesVerdict name bytes new found)

verdict-none : (name : List ℕ) (old new : Option (List ℕ))
    → ((v : Verdict) → Next old (escaped name ++ verdict_text v) new false) → NextVerdict name old new None
verdict-none name None new h = tt
verdict-none name (Some bytes) new h = h

-- the byte came that begins the text of a verdict, and then its text or another
ahead-then : (two three new : Option (List ℕ)) (v : Verdict) (r : Bool) (t : List ℕ) → Ahead two three (Some v)
    → Next three t new r → Next two t new r
ahead-then two three new v r t a p = grind (arith, common_steps)

ahead-other : (two three new : Option (List ℕ)) (v : Verdict) → Ahead two three (Some v)
    → Next three (drop 2 (verdict_text v)) new false → (w : Verdict) → Next two (drop 2 (verdict_text w)) new false
ahead-other two three new v a p w = grind (arith, common_steps, ahead-then, same_Some)

ahead-never : (two three new : Option (List ℕ)) → Ahead two three None → (w : Verdict)
    → Next two (drop 2 (verdict_text w)) new false
ahead-never two three new a w = grind (arith, common_steps, none-some)

abbrev colon : List ℕ
colon = 58 ∷ 32 ∷ []

module _ (name : List ℕ) (old one new : Option (List ℕ)) where
  module _ (two : Option (List ℕ)) (p : Next old (escaped name) one true) where
    -- the name came, and then this
    after-name : (v : Verdict) (r : Bool) → Next one (colon ++ drop 2 (verdict_text v)) new r
        → Next old (escaped name ++ verdict_text v) new r
    after-name v r q = grind (arith, common_steps, next-then, text-whole)

    after-colon : Next one colon two true → (v : Verdict) (r : Bool) → Next two (drop 2 (verdict_text v)) new r
        → Next old (escaped name ++ verdict_text v) new r
    after-colon q v r s = after-name v r (next-then one two new colon (drop 2 (verdict_text v)) r q s)

    pub verdict-apart : Next one colon two false → NextVerdict name old new None
    verdict-apart q = verdict-none name old new
        (λ v. after-name v false (next-not one two new colon (drop 2 (verdict_text v)) q))

    pub verdict-never : (three : Option (List ℕ)) → Next one colon two true → Ahead two three None
        → NextVerdict name old new None
    verdict-never three q a = verdict-none name old new (λ v. after-colon q v false (ahead-never two three new a v))

    pub verdict-ends : (three : Option (List ℕ)) (v : Verdict) (r : Bool) → Next one colon two true
        → Ahead two three (Some v) → Next three (drop 2 (verdict_text v)) new r
        → NextVerdict name old new (then_some r v)
    verdict-ends three v true q a s = grind (arith, common_steps, after-colon, ahead-then)
    verdict-ends three v false q a s = grind (arith, common_steps, verdict-none, after-colon, ahead-other)
