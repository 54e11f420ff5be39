-- The visible form of a name in messages on standard error: one line, without a command to a terminal.
use Rattle.std.specs.Prelude.{ℕ, ◌/◌, ◌%◌, Bool, ◌==◌, ◌&&◌, ◌||◌, not, [], ◌∷◌, ◌++◌, codes, if◌then◌else◌}
use Rattle.std.specs.Char.{encode_utf8, is_control}
use Rattle.std.specs.Int.{is_in_range}
use Rattle.std.specs.List.{flat_map}
use Rattle.std.specs.Str.{chars}
use Rattle.hex.specs.Hex.{encode_lower}
use Rattle.request.specs.CommandLine.{Text}
use Rattle.sumlist.specs.Escape.{escape_of, is_special}

-- a character that separates lines or paragraphs (UAX #14, 5.1: BK), or that marks, embeds, overrides or isolates the
-- direction of a text, or ends such a direction (UAX #9, 2)
abbrev pub is_layout : ℕ → Bool
is_layout c =
    c == 0x061c || (is_in_range 0x200e 0x200f c || (is_in_range 0x2028 0x202e c || is_in_range 0x2066 0x2069 c))

-- a character that is no command to a terminal, ends no line and sets no direction
abbrev pub is_quiet : ℕ → Bool
is_quiet c = not (is_control c || is_layout c)

-- a character that is written as itself
abbrev pub is_plain : ℕ → Bool
is_plain c = is_quiet c && not (c == 92)

-- how a character is written: by its escape if lists have one; by its number if it is another control character,
-- separates lines or sets a direction; otherwise as itself
abbrev pub visible_char : ℕ → Text
visible_char c =
    if is_special c then escape_of c
    else if is_control c then codes "\\x" ++ encode_lower (c ∷ [])
    else if is_layout c then codes "\\u{" ++ (encode_lower (c / 256 ∷ c % 256 ∷ []) ++ codes "}")
    else encode_utf8 c

-- how a name is written
unfoldable pub visible : Text → Text
visible name = flat_map visible_char (chars name)
