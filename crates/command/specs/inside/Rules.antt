-- The rule of the lines that a command prints, as the code holds it, and how it is had.
use Rattle.std.specs.Prelude.{◌⊎◌, ◌≡◌, ◌*◌, ◌^◌, ⊤, true, false, List, Option, None, ℕ, IsSome, MatchOption}
use Rattle.hashes.specs.declared.share.Share.{Share}
use Rattle.request.specs.CommandLine.{Text}
use Rattle.sumlist.specs.Report.{Files, Meaning, keyed as under_key, unkeyed}
use Rattle.sumlist.specs.declared.entries.Entries.{Entries}
use Rattle.sumlist.specs.inside.Stepped.{meaning_of}
use Rattle.task.specs.Tasks.{Source, Sum, digests, tags}
use Rattle.task.specs.inside.Possible.{mac_len}
use Rattle.task.specs.inside.Views.{key_shown}
use Rattle.task.specs.declared.tasks.Entries.{Entries as TaskEntries}
use Rattle.task.specs.declared.tasks.Entries.TheVariants.{Digests, Tags}
use Rattle.task.specs.declared.tasks.Reporting.{Reporting}
use Rattle.task.specs.declared.tasks.Sum.{Sum as CodeSum}
use Rattle.task.specs.declared.tasks.Sum.TheVariants as code
use Rattle.command.specs.Checking.{ListsRun}
use Rattle.command.specs.Keying.{SumRuns, mac_line}
use Rattle.command.specs.Lines.{LineRule, digest_line, key_opens}
use Rattle.command.specs.Run.{Run}
use Rattle.command.specs.inside.Keys.{IsKey, MayRefuseKey, key_content, takes_key}
use Rattle.command.specs.inside.Making.{made_len}
use Rattle.command.specs.inside.Seen.{source_opens}
use Rattle.command.specs.inside.Troubles.{Trouble, key_length}
use Rattle.command.specs.declared.making.Made.{Made}
use Rattle.command.specs.declared.rule.Keyed.{Keyed}
use Rattle.command.specs.declared.rule.Rule.{Rule}
use Rattle.command.specs.declared.rule.ShortKeyed.{ShortKeyed}
use Rattle.command.specs.declared.rule.Rule.TheVariants.{Digest, Tag}

-- the lines of tags under a key
abbrev pub keyed_line : Keyed → LineRule
keyed_line keyed = mac_line keyed.tagging.is_raw keyed.tagging.mac keyed.key.items

-- and those by any rule
abbrev pub line_by : Rule → LineRule
line_by (Digest hashing) = digest_line hashing.requested
line_by (Tag keyed) = keyed_line keyed

-- what the entries of lists are, where tags have such a key
abbrev pub meaning : Entries ShortKeyed → Meaning
meaning = meaning_of (λ k. (keyed_line k.keyed).limit) (λ k. (keyed_line k.keyed).bytes)

-- the run of `check` over such lists: a key is read and judged before any of them
abbrev pub EntriesRun : TaskEntries → Reporting → Source Share → Files → List Text → List ℕ → Run → Type 0
EntriesRun (Digests kind) reporting by files lists input = ListsRun (unkeyed kind) reporting by files lists input
EntriesRun (Tags short key) reporting by files lists input = SumRuns (tags short.mac false (key_shown key)) files
    (λ l. ListsRun (under_key (mac_len short.mac) l.limit l.bytes) reporting by files lists input)

-- how often a file is opened for the key of their entries
abbrev pub entries_opens : TaskEntries → ℕ
entries_opens (Digests kind) = 0
entries_opens (Tags short key) = key_opens (tags short.mac false (key_shown key))

-- a digest that was made has as many bytes as were asked for
abbrev pub IsSized : Rule → Made → Type 0
IsSized (Digest hashing) made = made_len made ≡ hashing.requested.stretch.length
IsSized (Tag keyed) made = ⊤

-- these are the lines of a sum, whose key is had of these files
abbrev pub HasRule : Files → Sum → LineRule → Type 0
HasRule files (digests r) l = l ≡ digest_line r
HasRule files (tags mac is_raw source) l = (key : List ℕ) × IsKey files source key × (takes_key mac key ≡ true)
    × (l ≡ mac_line is_raw mac key)

-- why they are not had
abbrev pub MayRefuseSum : Files → Sum → Trouble → Type 0
MayRefuseSum files (digests r) t = ⊥
MayRefuseSum files (tags mac is_raw source) t = MayRefuseKey files source t
    ⊎ ((t ≡ key_length) × ((key : List ℕ) × IsKey files source key × (takes_key mac key ≡ false)))

-- what the key file of a sum has, where there is one
abbrev pub sum_content : Files → Sum → Option (List ℕ)
sum_content files (digests r) = None
sum_content files (tags mac is_raw source) = key_content files source

-- memory is taken for what is printed of each file: for the parts that it is hashed in
abbrev pub TakesRoom : Rule → Type 0
TakesRoom (Digest hashing) = IsSome hashing.chunks
TakesRoom (Tag keyed) = ⊥

-- so many bytes are those of a part of a file, where files are hashed in parts
abbrev pub IsRoomFor : Rule → ℕ → Type 0
IsRoomFor (Digest hashing) n = MatchOption hashing.chunks (n ≡ 0) (λ _. (e : ℕ) × (n ≡ 1024 * 2 ^ e))
IsRoomFor (Tag keyed) n = ⊤

-- for what is printed of all of them: that, or the key in a file
abbrev pub WantsRoom : CodeSum → Type 0
WantsRoom (code.Digest hashing) = IsSome hashing.chunks
WantsRoom (code.Tag tagging key) = source_opens (key_shown key) ≡ 1
