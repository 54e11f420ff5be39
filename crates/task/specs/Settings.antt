-- What the text of a setting says, or the fault that is reported. A setting goes by its word on the command line, and a
-- fault is the text that reports it.
use Rattle.std.specs.Prelude.{◌++◌, ℕ, ◌==◌, ◌&&◌, Bool, List, [], ◌∷◌, if◌then◌else◌, nat_le, nat_lt, length}
use Rattle.std.specs.Prelude.{Option, Some, None, Result, Ok, Err, codes, count_ones, is_some, ok_or, replicate}
use Rattle.std.specs.Prelude.{unwrap_or}
use Rattle.std.specs.Map.{lookup}
use Rattle.std.specs.Option.{option_map_or}
use Rattle.std.specs.Result.{result_map_both}
use Rattle.std.specs.Str.{all_ascii_digits, bytes_eq}
use Rattle.std.specs.Str.Parse.{digits_value, without_leading_plus}
use Rattle.request.specs.CommandLine.{Given, Text, all_of, text_of}
use Rattle.hex.specs.Hex.{decode_of}

infixl 10 ◌>>=◌
-- the second step, if the first one has no fault
abbrev pub ◌>>=◌ : {A B : Type 0} → Result A Text → (A → Result B Text) → Result B Text
Ok x >>= f = f x
Err fault >>= f = Err fault

infixl 10 ◌>>◌
-- both steps, if the first one answers nothing
abbrev pub ◌>>◌ : {A B : Type 0} → Result A Text → Result B Text → Result B Text
first >> second = first >>= (λ _. second)

-- what is wrong is refused with this fault
abbrev pub unless : Bool → Text → Result (Unit {0}) Text
unless is_wrong fault = if is_wrong then Err fault else Ok tt

-- settings that may not be given, and what is reported of the first one that is
abbrev pub absent : Text → List Text → Given → Result (Unit {0}) Text
absent complaint [] g = Ok tt
absent complaint (s ∷ settings) g = unless (is_some (text_of s g)) (s ++ complaint) >> absent complaint settings g

-- what is reported if the algorithm does not have them
abbrev pub not_for : Text
not_for = codes ": not for this algorithm\n"

-- what a setting says, if it was given: a reading takes its word and its text
abbrev pub given : {A : Type 0} → (Text → Text → Result A Text) → Text → Given → Result (Option A) Text
given read s g = option_map_or (λ t. read s t >>= (λ x. Ok (Some x))) (text_of s g) (Ok None)

-- what a setting says that is required
abbrev pub needed : {A : Type 0} → (Text → Text → Result A Text) → Text → Given → Result A Text
needed read s g = ok_or (text_of s g) (s ++ codes ": needed\n") >>= read s

-- the fault of a setting that does not say what it has to
abbrev pub out_of_range : Text → Text
out_of_range s = s ++ codes ": out of range\n"

-- a text is read as what stands beside this name
abbrev pub named : {A : Type 0} → List (Text × A) → Text → Text → Result A Text
named xs s t = ok_or (lookup (bytes_eq t) xs) (out_of_range s)

-- a text is read as the number that decimal digits spell, after an optional plus, within a range
abbrev pub number_in : ℕ → ℕ → Text → Text → Result ℕ Text
number_in least most s t = let digits = without_leading_plus t in let n = digits_value 10 digits in
    if nat_lt 0 (length digits) && all_ascii_digits digits && (nat_le least n && nat_le n most)
    then Ok n else Err (out_of_range s)

-- a text is read as a power of two
abbrev pub power_in : ℕ → Text → Text → Result ℕ Text
power_in most s t = number_in 1 most s t >>= (λ n. if count_ones n == 1 then Ok n else Err (out_of_range s))

-- a text is read as the bytes that hexadecimal digits spell
abbrev pub hexadecimal : Text → Text → Result (List ℕ) Text
hexadecimal s t = result_map_both (λ bytes. bytes) (λ _. s ++ codes ": not hexadecimal\n") (decode_of t)

-- the number of a setting, or its default
abbrev pub number : ℕ → ℕ → ℕ → Text → Given → Result ℕ Text
number default least most s g = given (number_in least most) s g >>= (λ n. Ok (unwrap_or n default))

-- the bytes of a setting that has n of them, or zeros if it was not given
abbrev pub sized : ℕ → Text → Option (List ℕ) → Result (List ℕ) Text
sized n s None = Ok (replicate n 0)
sized n s (Some bytes) = if length bytes == n then Ok bytes else Err (s ++ codes ": wrong length\n")

-- the files or lists that were named
abbrev pub files : Given → List Text
files g = unwrap_or (all_of (codes "file") g.1) []

-- the files or lists that were named, or else standard input
abbrev pub names_or_input : Given → List Text
names_or_input g = if length (files g) == 0 then codes "-" ∷ [] else files g

-- the one file that was named, or standard input
abbrev pub file_or_input : Given → Text
file_or_input g = unwrap_or (text_of (codes "file") g) (codes "-")
