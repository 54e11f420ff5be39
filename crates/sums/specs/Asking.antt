-- Whether the words of the command line ask for the line of `--progress`.
use Rattle.std.specs.Prelude.{◌≡◌, ◌⊎◌, Bool, List, Ok, Err, codes, false}
use Rattle.request.specs.CommandLine.{AreRead, ErrorKind, Given, Text, has_flag}

-- the words make a request, with the flag or without it; or they make none, because they are wrong or ask for help, and
-- then nothing is shown
abbrev pub IsAsked : Bool → List Text → Type 0
IsAsked asks words = ((given : Given) × AreRead words (Ok given) × (asks ≡ has_flag (codes "--progress") given))
    ⊎ ((kind : ErrorKind) × AreRead words (Err kind) × (asks ≡ false))
