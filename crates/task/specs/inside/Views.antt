-- The tasks of the code as the definitions have them.
use Rattle.std.specs.Prelude.{ℕ, List, Vec, map, option_map}
use Rattle.std.specs.Borrow.{Bor}
use Rattle.hashes.specs.declared.share.Share.{Share}
use Rattle.request.specs.CommandLine.{Text}
use Rattle.task.specs.Tasks.{Asked, Derived, Source, Sum, by_blake3, by_hkdf, checks, checks_tags, derives, digests}
use Rattle.task.specs.Tasks.{hmac_alg, in_file, joins, prints_line, prints_lines, prints_part, prints_parts}
use Rattle.task.specs.Tasks.{prints_starts, tags, these, verifies}
use Rattle.task.specs.inside.Possible.{mac_len}
use Rattle.task.specs.declared.derivation.Derivation.{Derivation}
use Rattle.task.specs.declared.derivation.Derivation.TheVariants as derivation
use Rattle.task.specs.declared.tagging.Key.{Key}
use Rattle.task.specs.declared.tagging.Key.TheVariants.{Given as GivenKey, File}
use Rattle.task.specs.declared.tasks.Entries.{Entries}
use Rattle.task.specs.declared.tasks.Entries.TheVariants.{Digests, Tags}
use Rattle.task.specs.declared.tasks.Names.{Names}
use Rattle.task.specs.declared.tasks.Names.TheVariants.{Given as GivenNames, From}
use Rattle.task.specs.declared.tasks.Reporting.{Reporting}
use Rattle.task.specs.declared.tasks.Sum.{Sum as CodeSum}
use Rattle.task.specs.declared.tasks.Sum.TheVariants.{Digest, Tag}
use Rattle.task.specs.declared.tasks.Task.{Task}
use Rattle.task.specs.declared.tasks.Verdicts.{Verdicts}
use Rattle.task.specs.declared.tasks.Verdicts.TheVariants.{Files, Report}
use Rattle.task.specs.declared.tasks.Task.TheVariants as code

-- the texts of some names
abbrev pub texts_of : {X : Type 0} → Vec (Bor Text) X → List Text
texts_of names = map (λ n. n.now) names.items

-- the file that has the names of what is hashed, or these
abbrev pub names_shown : Names → Source (List Text)
names_shown (GivenNames names) = these (texts_of names)
names_shown (From list) = in_file list.now

-- the file that has a key, or its bytes
abbrev pub key_shown : Key → Source (List ℕ)
key_shown (GivenKey key) = these key.items
key_shown (File name) = in_file name.now

abbrev pub sum_shown : CodeSum → Sum
sum_shown (Digest hashing) = digests hashing.requested
sum_shown (Tag form key) = tags form.mac form.is_raw (key_shown key)

-- where verdicts come from
abbrev pub verdicts_shown : Verdicts → Source Share
verdicts_shown (Files share) = these share
verdicts_shown (Report name) = in_file name.now

-- what is asked of lists, by what their entries are
abbrev pub entries_shown : Entries → Reporting → Source Share → List Text → Asked
entries_shown (Digests kind) = checks kind
entries_shown (Tags short key) = checks_tags short.mac (mac_len short.mac) (key_shown key)

abbrev pub derivation_shown : Derivation → Derived
derivation_shown (derivation.Hkdf by) =
    by_hkdf (hmac_alg by.hash) by.length (option_map (λ v. v.items) by.salt) by.info.items
derivation_shown (derivation.Blake3 context n) = by_blake3 context.now n

abbrev pub task_shown : Task → Asked
task_shown (code.Lines sum names share) = prints_lines (sum_shown sum) (names_shown names) share
task_shown (code.Line sum wanted name content) =
    prints_line (sum_shown sum) (option_map (λ v. v.items) wanted) name.now content.now
task_shown (code.Part place name) = prints_part place.first place.chunks name.now
task_shown (code.Starts parts name) = prints_starts parts.chunks name.now
task_shown (code.Parts parts file) = prints_parts parts.chunks file.name.now file.share
task_shown (code.Verify parts file) = verifies parts.now file.name.now file.share
task_shown (code.Join joining wanted name lists) =
    joins joining.stretch joining.bytes (option_map (λ v. v.items) wanted) name.now (texts_of lists)
task_shown (code.Kdf derivation is_raw material) = derives (derivation_shown derivation) is_raw material.now
task_shown (code.Check entries reporting verdicts lists) =
    entries_shown entries reporting (verdicts_shown verdicts) (texts_of lists)
