use Rattle.std.proofs.Common.{◌≡◌, ◌∙◌, ◌++◌, ◌/◌, ◌%◌, ℕ, [], ◌∷◌, true, false, arith, codes, refl, sym}
use Rattle.std.proofs.lemmas.Bool.Decides.{nat_tests}
use Rattle.std.specs.Char.{is_control}
use Rattle.std.specs.List.{list_any}
use Rattle.std.specs.Prelude.{◌==◌}
use Rattle.source.proofs.Writing.{Failed-after, Failed-more, Writes-after, Writes-exit}
use Rattle.hex.specs.Hex.{encode_lower}
use Rattle.sumlist.specs.Escape.{is_special}
use Rattle.command.specs.Visible.{is_layout, visible_char}
use Rattle.command.proofs.visible.write_char.Goals as goal

control_char : (c : ℕ) → is_special c ≡ false → is_control c ≡ true
    → codes "\\x" ++ encode_lower (c ∷ []) ≡ visible_char c
control_char c special control = rw (special, control) refl

layout_char : (c : ℕ) → is_special c ≡ false → is_control c ≡ false → is_layout c ≡ true
    → codes "\\u{" ++ (encode_lower (c / 256 ∷ c % 256 ∷ []) ++ codes "}") ≡ visible_char c
layout_char c special control layout = rw (special, control, layout) refl

-- the characters that are listed
listed : (c : ℕ) → list_any (λ y. y == c) (0x061c ∷ 0x200e ∷ 0x200f ∷ 0x2028 ∷ 0x2029 ∷ 0x202a ∷ 0x202b ∷
    0x202c ∷ 0x202d
    ∷ 0x202e ∷ 0x2066 ∷ 0x2067 ∷ 0x2068 ∷ 0x2069 ∷ []) ≡ true → is_layout c ≡ true
listed c any = grind (arith, nat_tests, any)

high_byte : (c : ℕ) → is_layout c ≡ true → c / 256 % 256 ≡ c / 256
high_byte c layout = grind (arith, nat_tests, layout)

pub returns-in_err-write_all-in_default : goal.returns-in_err-write_all-in_default
returns-in_err-write_all-in_default g c =
    let control = sym c.is_control.ensures ∙ c.if-is_control.true in
    let special : is_special c.args.character ≡ false = grind (arith, nat_tests) in
    rw (← control_char c.args.character special control) (Writes-exit _ _ _ _ c.from_residual.ensures.0
    (Failed-more _ _ (codes "\\x") _ c.in_err-write_all-in_default.ensures))

pub returns-in_ok-write_all-in_default : goal.returns-in_ok-write_all-in_default
returns-in_ok-write_all-in_default g c =
    let control = sym c.is_control.ensures ∙ c.if-is_control.true in
    let special : is_special c.args.character ≡ false = grind (arith, nat_tests) in
    let digits = rw c.unwrap.ensures at c.encode_to_slice.ensures.written in
    rw (← control_char c.args.character special control) (Writes-after _ _ _ _ (codes "\\x") _
    c.in_ok-write_all-in_default.ensures (rw digits at c.write_all-in_default-2.ensures))

pub returns-in_err-write_all-in_default-2 : goal.returns-in_err-write_all-in_default-2
returns-in_err-write_all-in_default-2 g c =
    let control = sym c.is_control.ensures ∙ c.if-is_control.false in
    let layout = listed c.args.character (sym c.contains.ensures.value ∙ c.if-contains.true) in
    let special : is_special c.args.character ≡ false = grind (arith, nat_tests) in
    rw (← layout_char c.args.character special control layout) (Writes-exit _ _ _ _
    c.from_residual-in_err-write_all-in_default-2.ensures.0
    (Failed-more _ _ (codes "\\u{") _ c.in_err-write_all-in_default-2.ensures))

pub returns-in_err-write_all-in_default-2-2 : goal.returns-in_err-write_all-in_default-2-2
returns-in_err-write_all-in_default-2-2 g c =
    let control = sym c.is_control.ensures ∙ c.if-is_control.false in
    let layout = listed c.args.character (sym c.contains.ensures.value ∙ c.if-contains.true) in
    let special : is_special c.args.character ≡ false = grind (arith, nat_tests) in
    let digits = rw (c.unwrap-in_default-2.ensures, c.to_be_bytes.ensures, high_byte c.args.character layout)
    at c.encode_to_slice-in_default-2.ensures.written in
    rw (← layout_char c.args.character special control layout) (Writes-exit _ _ _ _
    c.from_residual-in_err-write_all-in_default-2-2.ensures.0 (Failed-after _ _ _ (codes "\\u{") _
    c.in_ok-write_all-in_default-2.ensures (Failed-more _ _
    (encode_lower (c.args.character / 256 ∷ c.args.character % 256 ∷ [])) _
    (rw digits at c.in_err-write_all-in_default-2-2.ensures))))

pub returns-in_ok-write_all-in_default-2-2 : goal.returns-in_ok-write_all-in_default-2-2
returns-in_ok-write_all-in_default-2-2 g c =
    let control = sym c.is_control.ensures ∙ c.if-is_control.false in
    let layout = listed c.args.character (sym c.contains.ensures.value ∙ c.if-contains.true) in
    let special : is_special c.args.character ≡ false = grind (arith, nat_tests) in
    let digits = rw (c.unwrap-in_default-2.ensures, c.to_be_bytes.ensures, high_byte c.args.character layout)
    at c.encode_to_slice-in_default-2.ensures.written in
    rw (← layout_char c.args.character special control layout) (Writes-after _ _ _ _ (codes "\\u{") _
    c.in_ok-write_all-in_default-2.ensures (Writes-after _ _ _ _
    (encode_lower (c.args.character / 256 ∷ c.args.character % 256 ∷ [])) _
    (rw digits at c.in_ok-write_all-in_default-2-2.ensures) c.write_all-in_default-2-4.ensures))
