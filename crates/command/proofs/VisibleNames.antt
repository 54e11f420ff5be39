-- What the visible form of a name comes to: characters that are no command to a terminal, end no line and set no
-- direction, and the name itself where it has only such ones and no backslash.
use Rattle.std.proofs.lemmas.Grind.{common_steps}
use Rattle.std.proofs.Common.{◌≡◌, ◌∙◌, ℕ, ◌/◌, ◌%◌, ◌<◌, Bool, true, false, cond, ◌&&◌, ◌||◌, List, [], ◌∷◌, ◌++◌}
use Rattle.std.proofs.Common.{refl, sym, ap, arith, append-nil, codes}
use Rattle.std.proofs.Math.Utf8.{encodes, scalars}
use Rattle.std.proofs.lemmas.Bool.Decides.{nat_tests}
use Rattle.std.proofs.lemmas.List.Sums.{AllPass-from_list_all}
use Rattle.std.proofs.lemmas.Str.{IsUtf8-encode, IsUtf8-from_ascii, chars-IsAscii, chars-append, chars-nil}
use Rattle.std.proofs.lemmas.Str.{chars_past_char, encodes-chars, scalars-chars}
use Rattle.std.proofs.lemmas.Str.Ascii.{IsAscii-cons, IsAscii-nil}
use Rattle.std.specs.Char.{IsScalar, encode_utf8, is_control}
use Rattle.std.specs.Int.{is_in_range}
use Rattle.std.specs.List.{flat_map, list_all}
use Rattle.std.specs.Prelude.{◌==◌, not, slice_index}
use Rattle.std.specs.Str.{IsAscii, IsUtf8, chars}
use Rattle.hex.specs.Hex.{encode_lower, encode_with, lower_digits}
use Rattle.sumlist.specs.Escape.{escape_of, is_special}
use Rattle.command.specs.Visible.{is_layout, is_plain, is_quiet, visible, visible_char}

and_true : (a b : Bool) → a ≡ true → b ≡ true → (a && b) ≡ true
and_true a b p q = grind (arith, common_steps)

and_left : (a b : Bool) → (a && b) ≡ true → a ≡ true
and_left a b e = grind (arith, common_steps)

and_right : (a b : Bool) → (a && b) ≡ true → b ≡ true
and_right a b e = grind (arith, common_steps)

-- a text whose characters are quiet
record IsQuiet (text : List ℕ) : Type 0 where
  pub utf8 : IsUtf8 text
  pub quiet : list_all is_quiet (chars text) ≡ true

-- ---- texts of ASCII

-- from the blank to the tilde
abbrev printable : ℕ → Bool
printable b = is_in_range 32 126 b

ascii_printable : (b : ℕ) → printable b ≡ true → b < 128
ascii_printable b e = grind (arith, nat_tests, e)

quiet_printable : (b : ℕ) → printable b ≡ true → is_quiet b ≡ true
quiet_printable b e = grind (arith, nat_tests, e)

all_ascii : (text : List ℕ) → list_all printable text ≡ true → IsAscii text
all_ascii [] e = IsAscii-nil
all_ascii (b ∷ text) e =
    IsAscii-cons b text (ascii_printable b (and_left (printable b) (list_all printable text) e))
    (all_ascii text (and_right (printable b) (list_all printable text) e))

all_quiet : (text : List ℕ) → list_all printable text ≡ true → list_all is_quiet text ≡ true
all_quiet [] e = refl
all_quiet (b ∷ text) e =
    and_true (is_quiet b) (list_all is_quiet text)
    (quiet_printable b (and_left (printable b) (list_all printable text) e))
    (all_quiet text (and_right (printable b) (list_all printable text) e))

quiet_text : (text : List ℕ) → list_all printable text ≡ true → IsQuiet text
quiet_text text e = grind (arith, common_steps, IsUtf8-from_ascii, all_ascii, chars-IsAscii, all_quiet)

printable_digit : (n : ℕ) → n < 16 → printable (slice_index lower_digits n) ≡ true
printable_digit n less = AllPass-from_list_all printable lower_digits refl n 0 less

-- ---- what one character is told as

quiet_number : (c : ℕ) → c < 256 → IsQuiet (codes "\\x" ++ encode_lower (c ∷ []))
unfolding encode_with
quiet_number c less =
    quiet_text _ (and_true _ _ (printable_digit (c / 16) (omega arith))
    (and_true _ _ (printable_digit (c % 16) (omega arith)) refl))

quiet_long_number : (high low : ℕ) → high < 256 → low < 256
    → IsQuiet (codes "\\u{" ++ (encode_lower (high ∷ low ∷ []) ++ codes "}"))
unfolding encode_with
quiet_long_number high low less within =
    quiet_text _ (and_true _ _ (printable_digit (high / 16) (omega arith))
    (and_true _ _ (printable_digit (high % 16) (omega arith))
    (and_true _ _ (printable_digit (low / 16) (omega arith))
    (and_true _ _ (printable_digit (low % 16) (omega arith)) refl))))

quiet_escape : (c : ℕ) (x y z : Bool) → (x || (y || z)) ≡ true
    → IsQuiet (cond x (92 ∷ 92 ∷ []) (cond y (92 ∷ 110 ∷ []) (cond z (92 ∷ 114 ∷ []) (c ∷ []))))
quiet_escape c true y z e = quiet_text (92 ∷ 92 ∷ []) refl
quiet_escape c false true z e = quiet_text (92 ∷ 110 ∷ []) refl
quiet_escape c false false true e = quiet_text (92 ∷ 114 ∷ []) refl
quiet_escape c false false false e = absurd (cc e)

quiet_itself : (c : ℕ) → IsScalar c → is_quiet c ≡ true → IsQuiet (encode_utf8 c)
quiet_itself c scalar e =
    let one : chars (encode_utf8 c) ≡ c ∷ []
    = chars_past_char (encode_utf8 c) [] c (IsUtf8-encode c scalar) (sym (append-nil (encode_utf8 c)))
    ∙ ap (λ (cs : List ℕ). c ∷ cs) chars-nil in
    record {
      utf8 = IsUtf8-encode c scalar;
      quiet = ap (list_all is_quiet) one ∙ and_true (is_quiet c) true e refl;
    }

quiet_char : (c : ℕ) → IsScalar c → IsQuiet (visible_char c)
quiet_char c scalar = by_class (is_special c) (is_control c) (is_layout c) refl refl refl
  where
    by_class : (s t d : Bool) → is_special c ≡ s → is_control c ≡ t → is_layout c ≡ d
        → IsQuiet (cond s (escape_of c) (cond t (codes "\\x" ++ encode_lower (c ∷ []))
        (cond d (codes "\\u{" ++ (encode_lower (c / 256 ∷ c % 256 ∷ []) ++ codes "}")) (encode_utf8 c))))
    by_class true t d special control layout = quiet_escape c (c == 92) (c == 10) (c == 13) special
    by_class false true d special control layout = quiet_number c (grind (arith, nat_tests, control))
    by_class false false true special control layout =
        quiet_long_number (c / 256) (c % 256) (grind (arith, nat_tests, layout)) (omega arith)
    by_class false false false special control layout =
        quiet_itself c scalar (ap (λ (t : Bool). not (t || is_layout c)) control
        ∙ ap (λ (d : Bool). not (false || d)) layout)

-- ---- what a name is told as

list_all-append : (xs ys : List ℕ) → list_all is_quiet xs ≡ true → list_all is_quiet ys ≡ true
    → list_all is_quiet (xs ++ ys) ≡ true
list_all-append [] ys p q = q
list_all-append (x ∷ xs) ys p q =
    and_true (is_quiet x) (list_all is_quiet (xs ++ ys)) (and_left (is_quiet x) (list_all is_quiet xs) p)
    (list_all-append xs ys (and_right (is_quiet x) (list_all is_quiet xs) p) q)

quiet_chars : (cs : List ℕ) → scalars cs ≡ true → list_all is_quiet (chars (flat_map visible_char cs)) ≡ true
quiet_chars [] e = ap (list_all is_quiet) chars-nil
quiet_chars (c ∷ cs) e =
    let first = quiet_char c (and_left _ (scalars cs) e) in
    ap (list_all is_quiet) (chars-append (visible_char c) (flat_map visible_char cs) first.utf8)
    ∙ list_all-append (chars (visible_char c)) (chars (flat_map visible_char cs)) first.quiet
    (quiet_chars cs (and_right _ (scalars cs) e))

pub visible-quiet : (name : List ℕ) → IsUtf8 name → list_all is_quiet (chars (visible name)) ≡ true
unfolding visible
visible-quiet name utf8 = quiet_chars (chars name) (scalars-chars name utf8)

-- ---- names that need no change

plain_char : (c : ℕ) → is_plain c ≡ true → visible_char c ≡ encode_utf8 c
plain_char c e = grind (arith, nat_tests, e)

plain_chars : (cs : List ℕ) → list_all is_plain cs ≡ true → flat_map visible_char cs ≡ encodes cs
plain_chars [] e = refl
plain_chars (c ∷ cs) e =
    ap (λ (x : List ℕ). x ++ flat_map visible_char cs) (plain_char c (and_left (is_plain c) (list_all is_plain cs) e))
    ∙ ap (λ (x : List ℕ). encode_utf8 c ++ x) (plain_chars cs (and_right (is_plain c) (list_all is_plain cs) e))

pub visible-plain : (name : List ℕ) → IsUtf8 name → list_all is_plain (chars name) ≡ true → visible name ≡ name
unfolding visible
visible-plain name utf8 e = plain_chars (chars name) e ∙ encodes-chars name utf8

-- ---- no name

pub visible-none : (text : List ℕ) → visible [] ++ text ≡ text
unfolding visible
visible-none text = ap (λ (cs : List ℕ). flat_map visible_char cs ++ text) chars-nil
