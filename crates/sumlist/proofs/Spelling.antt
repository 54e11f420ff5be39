-- A line that is written of an entry spells it: its core is the whole line, since no CR and no LF is in it.
use Rattle.hashes.specs.Kinds.{alg_kind}
use Rattle.sumlist.proofs.Common.{◌≡◌, inl, inr, ◌*◌, ◌≤◌, Bool, true, false, ◌||◌, List, [], ◌∷◌, ◌++◌, length, refl}
use Rattle.sumlist.proofs.Common.{ap, length-append, if◌then◌else◌, ◌∙◌, eqb, arith, All-weaker, false≢true}
use Rattle.sumlist.proofs.Common.{nat_tests, decode_of-encode_lower, length-encode_with, encode_lower, lower_digits}
use Rattle.sumlist.proofs.Common.{Alg, Kind, Listing, IsEntry, escaped, escape_of, needs_escape}
use Rattle.sumlist.proofs.Common.{SpellsName, HasForm, Says, core, IsBlank, Spells, IsLabel, label_of}
use Rattle.sumlist.proofs.Common.{closing, tagged_len, IsUntagged, None, Option, Some, sym, ℕ, common_steps}
use Rattle.std.specs.Prelude.{not}
use Rattle.std.specs.List.{list_all}
use Rattle.std.proofs.lemmas.List.Elements.{All-contains, All-head}
use Rattle.std.proofs.lemmas.List.Folds.{list_all-append}
use Rattle.std.proofs.lemmas.List.Sums.{AllPass-from_list_all, list_all-from_AllPass}
use Rattle.sumlist.specs.Entry.{written_line}
use Rattle.sumlist.specs.Tagged.{tagged_line}
use Rattle.sumlist.proofs.EscapedNames.{escaped-plain}
use Rattle.sumlist.specs.inside.Reading.{stated}
use Rattle.std.proofs.lemmas.Option.{none-some}
use Rattle.sumlist.proofs.Reading.{labelled_form, plain_form, told_by-cut}
use Rattle.sumlist.proofs.Stating.{no_slash, stated-is, unslashed-plain}
use Rattle.sumlist.proofs.Words.{InWord, IsWord, digits_word, label_word, no_space}

-- ---- the escaped form of a name

spells_escaped : (name : List ℕ) → SpellsName (escaped name) name
spells_escaped [] = refl
spells_escaped (c ∷ name) = (escape_of c, escaped name, refl, grind (arith, nat_tests), spells_escaped name)

-- ---- bytes that are neither LF nor CR

abbrev is_inner : ℕ → Bool
is_inner c = not (eqb c 10 || eqb c 13)

abbrev Inner : List ℕ → Type 0
Inner xs = list_all is_inner xs ≡ true

word_inner : (word : List ℕ) → IsWord word → Inner word
word_inner word w = grind (arith, common_steps, list_all-from_AllPass, All-weaker, InWord, nat_tests)

escaped_inner : (name : List ℕ) → Inner (escaped name)
escaped_inner [] = refl
escaped_inner (c ∷ name) = grind (arith, nat_tests, list_all-append, escaped_inner name)

core_whole : (xs : List ℕ) → Inner xs → core xs ≡ xs
core_whole xs all = grind (arith, common_steps, AllPass-from_list_all, nat_tests)

-- ---- a line of a word, a space, and more

spells : (line : List ℕ) (kind : Option Kind) (e : Listing) → Says line kind e → IsEntry e → Inner line
    → (IsBlank line → ⊥) → length line ≤ 65536 → Spells line kind e
spells line kind e h i all told fits = grind (arith, core_whole, All-contains, AllPass-from_list_all, false≢true)

not_blank : (word rest : List ℕ) → IsWord word → IsBlank (word ++ 32 ∷ rest) → ⊥
not_blank word rest w b = grind (arith, common_steps, All-head, InWord)

-- where such a text has a form for each body, it spells the entry whose name is the body, escaped
module _ (e : Listing) (kind : Option Kind) (word : List ℕ) (more : List ℕ → List ℕ)
    (has : (body : List ℕ) → HasForm (word ++ 32 ∷ more body) kind e.alg e.tag body) where
  spells_by : (b : Bool) → needs_escape e.name ≡ b → IsEntry e → IsWord word
      → Inner (word ++ 32 ∷ more (escaped e.name))
      → length ((if b then 92 ∷ [] else []) ++ (word ++ 32 ∷ more (escaped e.name))) ≤ 65536
      → Spells ((if b then 92 ∷ [] else []) ++ (word ++ 32 ∷ more (escaped e.name))) kind e
  spells_by true h i w all fits =
      let form = has (escaped e.name) in
      spells _ kind e (inr (_, escaped e.name, refl, form, spells_escaped e.name)) i all (λ s. grind arith) fits
  spells_by false h i w all fits =
      spells _ kind e (inl (rw (escaped-plain e.name h) (has e.name))) i all (not_blank word _ w) fits

-- ---- the plain line

pub written_spells : (e : Listing) → IsEntry e → Spells (written_line e) (Some (alg_kind e.alg)) e
written_spells e i =
    let digits = encode_lower e.tag in
    let value = decode_of-encode_lower e.tag i.bytes in
    let word = digits_word digits e.tag value in
    let sized = length-encode_with lower_digits e.tag ∙ ap (λ n. 2 * n) i.sized.1 in
    spells_by e (Some (alg_kind e.alg)) digits (λ body. 32 ∷ body)
    (λ body. plain_form _ digits 32 e.alg e.tag body (inl refl) refl i.sized.0 sized value)
    (needs_escape e.name) refl i word (simp (list_all-append, word_inner digits word, escaped_inner e.name))
    (omega (arith, length-append {A = ℕ}, sized, i.sized.1, i.fits.within))

led_inner : (b : Bool) (xs : List ℕ) → Inner xs → Inner ((if b then 92 ∷ [] else []) ++ xs)
led_inner b xs all = grind (arith, common_steps)

-- the plain line of a word without a space is no tagged one
module _ (digits body : List ℕ) (word : IsWord digits) where
  plain_unstated : (b : Bool) (line : List ℕ) → line ≡ (if b then 92 ∷ [] else []) ++ (digits ++ 32 ∷ 32 ∷ body)
      → stated None line ≡ None
  plain_unstated true line is = rw (
    is,
    told_by-cut None (digits ++ 32 ∷ 32 ∷ body) digits (32 ∷ body)
        (refl, no_space digits word),
  ) refl
  plain_unstated false line is =
      let plain = no_slash digits (32 ∷ body) word in
      rw (
        is,
        plain,
        unslashed-plain None (digits ++ 32 ∷ 32 ∷ body) plain,
        told_by-cut None (digits ++ 32 ∷ 32 ∷ body) digits (32 ∷ body) (refl, no_space digits word),
      ) refl

pub written_untagged : (e : Listing) → IsEntry e → IsUntagged (written_line e) None
written_untagged e i =
    let s = written_spells e i in
    let digits = encode_lower e.tag in
    let word = digits_word digits e.tag (decode_of-encode_lower e.tag i.bytes) in
    let inner = led_inner (needs_escape e.name) _
    (simp (list_all-append, word_inner digits word, escaped_inner e.name)) in (
      (
        s.not_skipped,
        λ d t. none-some d (sym (plain_unstated digits (escaped e.name) word (needs_escape e.name)
            (core (written_line e)) (core_whole (written_line e) inner)) ∙ stated-is None
            (core (written_line e)) d t.form),
      ),
      alg_kind e.alg,
      e,
      s,
    )

-- ---- the tagged line, whatever the kind of its list

-- the written label names its algorithm
label_named : (a : Alg) → IsLabel (label_of a) a
label_named a = grind (arith, nat_tests)

pub tagged_spells : (e : Listing) (kind : Option Kind) → IsEntry e → tagged_len e.alg e.name ≤ 65536
    → Spells (tagged_line e) kind e
tagged_spells e kind i fits =
    let digits = encode_lower e.tag in
    let value = decode_of-encode_lower e.tag i.bytes in
    let label = label_word (label_of e.alg) e.alg i.sized.0 (label_named e.alg) in
    let sized = length-encode_with lower_digits e.tag ∙ ap (λ n. 2 * n) i.sized.1 in
    let word = digits_word digits e.tag value in
    spells_by e kind (label_of e.alg) (λ body. 40 ∷ (body ++ closing digits))
    (λ body. labelled_form kind _ digits e.alg e.tag body i.sized.0 (label_named e.alg) sized value)
    (needs_escape e.name) refl i label
    (simp (list_all-append, word_inner (label_of e.alg) label, escaped_inner e.name, word_inner digits word))
    (omega (arith, length-append {A = ℕ}, sized, fits))
