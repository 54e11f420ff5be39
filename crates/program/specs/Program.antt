-- What a run of the program prints, tells and answers, by its words, standard input and files.
use Rattle.std.specs.Prelude.{◌⊎◌, ◌≡◌, ◌≤◌, ◌+◌, ℕ, false, List, [], ◌∷◌, Ok, Err, MatchResult, length, sum_by}
use Rattle.std.specs.Option.{option_map_or}
use Rattle.source.specs.Written.{Shown}
use Rattle.sumlist.specs.Lines.{lines}
use Rattle.sumlist.specs.Naming.{names}
use Rattle.sumlist.specs.Report.{Files, keyed, unkeyed}
use Rattle.sumlist.specs.Shared.{every}
use Rattle.request.specs.CommandLine.{AreRead, ErrorKind, Given, IsWrong, Text}
use Rattle.task.specs.Tasks.{Asked, asked, checks, checks_tags, derives, in_file, joins, prints_line}
use Rattle.task.specs.Tasks.{prints_lines, prints_part, prints_parts, prints_starts, tags, these, verifies}
use Rattle.command.specs.Checking.{ListsRun, list_opens}
use Rattle.command.specs.Run.{Counted, Prints, Run, Runs, out_of_memory, prints, stops}
use Rattle.command.specs.Cutting.{EachRuns, PartRuns, StartsRuns, numbers_of}
use Rattle.command.specs.Hashing.{LinesGiven, LinesListed}
use Rattle.command.specs.Joining.{JoinRuns}
use Rattle.command.specs.Keying.{KdfRuns, LineRuns, SumRuns}
use Rattle.command.specs.Lines.{content_of, key_opens, opens_of, part_opens}
use Rattle.command.specs.Verifying.{VerifyRuns}

-- the run of a task
abbrev pub TaskRuns : Asked → Files → List ℕ → Run → Type 0
TaskRuns (prints_lines sum (these found) s) files input = SumRuns sum files (λ l. LinesGiven s l files found input)
TaskRuns (prints_lines sum (in_file list) s) files input =
    SumRuns sum files (λ l. LinesListed s l files list (content_of list input files))
TaskRuns (prints_line sum wanted name file) files input =
    SumRuns sum files (λ l. LineRuns wanted l name file input files)
TaskRuns (derives derived is_raw name) files input = KdfRuns derived is_raw name files
TaskRuns (checks kind reporting by lists) files input = ListsRun (unkeyed kind) reporting by files lists input
TaskRuns (checks_tags mac n key reporting by lists) files input =
    SumRuns (tags mac false key) files (λ l. ListsRun (keyed n l.limit l.bytes) reporting by files lists input)
TaskRuns (prints_part first chunks name) files input = PartRuns first chunks name files input
TaskRuns (prints_starts chunks name) files input = StartsRuns chunks name files
TaskRuns (prints_parts chunks name s) files input = EachRuns s chunks name files input
TaskRuns (verifies parts name s) files input = VerifyRuns s parts name files input
TaskRuns (joins stretch bytes wanted name lists) files input = JoinRuns stretch bytes wanted name lists files input

-- how many files it opens at most: a list, and each of what it names, included; of a share its own
abbrev pub most_opens : Asked → Files → List ℕ → ℕ
most_opens (prints_lines sum (these found) s) files input = key_opens sum + sum_by opens_of
    (every s.others s.waiting found)
most_opens (prints_lines sum (in_file list) s) files input = key_opens sum + (opens_of list
    + length (option_map_or (λ bytes. every s.others s.waiting (names bytes)) (content_of list input files) []))
most_opens (prints_line sum wanted name file) files input = key_opens sum + opens_of file
most_opens (derives derived is_raw name) files input = 1
most_opens (checks kind reporting by lists) files input = list_opens by lists files input
most_opens (checks_tags mac n key reporting by lists) files input =
    key_opens (tags mac false key) + list_opens by lists files input
most_opens (prints_part first chunks name) files input = opens_of name
most_opens (prints_starts chunks name) files input = 55
most_opens (prints_parts chunks name s) files input =
    part_opens s name (option_map_or (numbers_of chunks) (content_of name input files) [])
most_opens (verifies parts name s) files input = 1 + part_opens s name (option_map_or lines (files parts) [])
most_opens (joins stretch count wanted name lists) files input = sum_by opens_of lists

-- the run of a request, and how many files it opens at most: its task's, or the first fault of its settings, or want of
-- memory before either
abbrev pub RequestRuns : Given → Files → List ℕ → Run → ℕ → Type 0
RequestRuns given files input run opens =
    MatchResult (asked given) (λ task. TaskRuns task files input run × (opens ≡ most_opens task files input))
    (λ fault. (run ≡ stops (2, fault)) × (opens ≡ 0))
    ⊎ ((run ≡ stops out_of_memory) × (opens ≡ 0))

-- a text of `clap`'s: that of wrong words is told, and that of help and of the version printed
abbrev pub ClapRuns : ErrorKind → Text → Run → Type 0
ClapRuns kind text run = (IsWrong kind → run ≡ record (prints [] 2) { notes = text ∷ [] })
    × ((IsWrong kind → ⊥) → Prints text 0 run)

-- what a run of the program may be, where standard input has these bytes and the files these contents: what
-- standard output and standard error show before and after it, and the counts of failed reads and of opens
abbrev pub ProgramRuns : List Text → List ℕ → Files → ℕ → (out_old out_new err_old err_new : Shown)
    → (input_old input_new files_old files_new opens_old opens_new : ℕ) → Type 0
ProgramRuns words input files status out_old out_new err_old err_new i j f g o p =
    (run : Run) × (opens : ℕ) × Runs run status out_old out_new err_old err_new × Counted run.failures i j f g
    × (p ≤ o + opens) × (((given : Given) × AreRead words (Ok given) × RequestRuns given files input run opens)
    ⊎ ((kind : ErrorKind) × (text : Text) × AreRead words (Err kind) × ClapRuns kind text run × (opens ≡ 0))
    ⊎ ((run ≡ stops out_of_memory) × (opens ≡ 0)))
