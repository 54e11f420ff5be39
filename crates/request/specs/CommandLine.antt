-- The command line of the program, as `clap` parses it. `clap` judges which options there are, which of them take a
-- value or a number, which are required, and the names of `-a`.
use Rattle.std.specs.Prelude.{◌≡◌, ◌≢◌, Bool, true, false, List, [], ◌∷◌, Option, Some, Result, MatchResult, codes}
use Rattle.std.specs.Prelude.{◌++◌, fold, map, slice_get, take}
use Rattle.std.specs.Borrow.{Bor}
use Rattle.std.specs.Option.{option_map_or}
use Rattle.std.specs.Str.{bytes_eq}
pub use Rattle.clap.specs.Words.{IsAmong, Text, all_of, fault_of, kind_of}
pub use Rattle.clap.specs.declared.error.ErrorKind.{ErrorKind}
use Rattle.clap.specs.Words.{App, Row, Rule, first_of, found_of, new_app, new_rule, rows_of, subcommand_of}
use Rattle.clap.specs.Words.{with_rule, with_subcommand}
use Rattle.hashes.specs.Kinds.{kinds}
use Rattle.request.specs.declared.request.Request.{Request}
use Rattle.clap.specs.declared.builder.value_parser.ValueParser.TheVariants as vp
use Rattle.clap.specs.declared.error.ErrorKind.TheVariants as clap
use Rattle.clap.specs.declared.builder.action.ArgAction.TheVariants.{Append, SetTrue}

-- the names that `-a` takes
abbrev pub NameList : Type 0
NameList = Bor (List (Bor Text))

-- an option `-x` that takes a value; the id of an option or a flag is its word, with the dashes
abbrev pub letter : Text → Rule
letter name = record (new_rule (codes "-" ++ name)) { short = slice_get name 0; value_names = 1 }

-- an option `--name` that takes a value
abbrev pub option : Text → Rule
option name = record (new_rule (codes "--" ++ name)) { long = Some name; value_names = 1 }

-- a flag `--name`, which takes no value
abbrev pub flag : Text → Rule
flag name = record (new_rule (codes "--" ++ name)) { long = Some name; action = Some SetTrue }

-- its value is a number below 2^64
abbrev pub number : Rule → Rule
number rule = record rule { parser = Some (vp.Unsigned 0 18446744073709551615) }

-- `-a`, whose value is one of these names
abbrev pub algorithm : NameList → Rule
algorithm names = record (letter (codes "a")) { parser = Some (vp.Names names) }

-- an option or argument that is required
abbrev pub required : Rule → Rule
required rule = record rule { required = true }

-- one FILE or LIST
abbrev pub file : Rule
file = record (new_rule (codes "file")) { value_names = 1 }

-- any number of FILEs or LISTs
abbrev pub files : Rule
files = record file { action = Some Append }

-- a command with these options and arguments
abbrev pub command : Text → List Rule → App
command name = fold with_rule (new_app name)

-- the six commands: `names` are the names that ALG takes, `macs` those of MAC, and `both` those that `check` takes
abbrev pub commands : NameList → NameList → NameList → List App
commands names macs both = command (codes "hash") (required (algorithm names) ∷ number (letter (codes "l"))
    ∷ number (option (codes "seek")) ∷ number (option (codes "parts")) ∷ option (codes "salt")
    ∷ option (codes "personal") ∷ option (codes "verify") ∷ flag (codes "tag") ∷ flag (codes "raw")
    ∷ flag (codes "progress") ∷ option (codes "files0-from") ∷ option (codes "name") ∷ option (codes "share")
    ∷ files ∷ [])
    ∷ command (codes "mac") (required (algorithm macs) ∷ option (codes "key") ∷ option (codes "key-file")
    ∷ number (letter (codes "l")) ∷ option (codes "verify") ∷ flag (codes "raw") ∷ flag (codes "progress")
    ∷ option (codes "files0-from") ∷ option (codes "name") ∷ option (codes "share") ∷ files ∷ [])
    ∷ command (codes "kdf") (required (algorithm names) ∷ required (option (codes "ikm-file"))
    ∷ option (codes "salt") ∷ option (codes "info") ∷ option (codes "context")
    ∷ required (number (letter (codes "l"))) ∷ flag (codes "raw") ∷ [])
    ∷ command (codes "check") (algorithm both ∷ option (codes "key") ∷ option (codes "key-file")
    ∷ number (letter (codes "l")) ∷ flag (codes "summary") ∷ flag (codes "progress") ∷ option (codes "share")
    ∷ record (option (codes "report")) { aliases = codes "told" ∷ [] } ∷ files ∷ [])
    ∷ command (codes "part") (required (algorithm names) ∷ number (option (codes "first"))
    ∷ number (option (codes "chunks")) ∷ flag (codes "list") ∷ number (option (codes "each"))
    ∷ option (codes "verify") ∷ flag (codes "progress") ∷ option (codes "share") ∷ file ∷ [])
    ∷ command (codes "join") (required (algorithm names) ∷ option (codes "name") ∷ number (option (codes "bytes"))
    ∷ number (letter (codes "l")) ∷ number (option (codes "seek")) ∷ option (codes "verify") ∷ flag (codes "progress")
    ∷ files ∷ []) ∷ []

-- the program's command on its own
abbrev pub program_app : App
program_app = let app = new_app (codes "sums") in
    record app { top = record app.top { subcommand_required = true; has_version = true } }

-- the program's command with the six commands below it
unfoldable pub sums_app : NameList → NameList → NameList → App
sums_app names macs both = fold (λ whole below. with_subcommand whole below.top) program_app (commands names macs both)

-- what the words give: the name of a command, and the values of its options and arguments, each under its id
abbrev pub Given : Type 0
Given = Text × List Row

-- a request as what the words give
abbrev pub given_of : Request → Given
given_of r = (r.command.now, rows_of (found_of r.matches))

-- the first value of an option or argument; `clap`'s `all_of` has all of them
abbrev pub text_of : Text → Given → Option Text
text_of id given = first_of id given.1

-- a flag was given: its value is then the word `true`
abbrev pub has_flag : Text → Given → Bool
has_flag id given = option_map_or (λ text. bytes_eq text (codes "true")) (text_of id given) false

-- the names of MAC
abbrev pub mac_names : List Text
mac_names = codes "hmac-sha256" ∷ codes "hmac-sha512" ∷ codes "hmac-blake2b" ∷ codes "hmac-blake2s"
    ∷ codes "blake2b" ∷ codes "blake2s" ∷ codes "blake3" ∷ []

-- how the words are read: as what they give, or with one of their faults; `-a` takes the names of the hashes, for `mac`
-- those of MAC, and for `check` the hashes and HMAC over them
abbrev pub AreRead : List Text → Result Given ErrorKind → Type 0
AreRead words read = (names : NameList) × (macs : NameList) × (both : NameList)
    × (map (λ n. n.now) names.now ≡ map (λ k. k.0) kinds) × (map (λ n. n.now) macs.now ≡ mac_names)
    × (map (λ n. n.now) both.now ≡ map (λ k. k.0) kinds ++ take 4 mac_names)
    × let app = sums_app names macs both in MatchResult read (λ given. (fault_of app words ≡ [])
    × (subcommand_of app words ≡ Some given)) (λ kind. IsAmong kind (fault_of app words))

-- words that are wrong, and do not ask for help or the version
abbrev pub IsWrong : ErrorKind → Type 0
IsWrong kind = (kind ≢ clap.DisplayHelp) × (kind ≢ clap.DisplayVersion)
