-- What a request asks for, or the first fault of its settings: the commands in the order of the manual page.
use Rattle.std.specs.Prelude.{ℕ, ◌-◌, ◌*◌, ◌%◌, ◌^◌, ◌==◌, ◌&&◌, ◌||◌, Bool, false, List, [], ◌∷◌, Option}
use Rattle.std.specs.Prelude.{Result, Ok, Err, codes, is_some, length, nat_lt, not, ok_or, unwrap_or, zip}
use Rattle.std.specs.Prelude.{if◌then◌else◌}
use Rattle.std.specs.Map.{lookup}
use Rattle.std.specs.Bool.{beq}
use Rattle.std.specs.Int.{leading_zeros, w64}
use Rattle.std.specs.List.{after_first, before_first, list_any}
use Rattle.std.specs.Option.{option_map_or}
use Rattle.std.specs.Str.{bytes_eq}
use Rattle.hashes.specs.Digest.{digest_len}
use Rattle.hashes.specs.declared.alg.Alg.{Alg}
use Rattle.hashes.specs.declared.alg.Alg.TheVariants as alg
use Rattle.hashes.specs.Kinds.{kinds, longest}
use Rattle.hashes.specs.declared.kind.Kind.{Kind}
use Rattle.hashes.specs.declared.kind.Kind.TheVariants as kind
use Rattle.hashes.specs.declared.share.Share.{Share}
use Rattle.request.specs.CommandLine.{Given, Text, has_flag, mac_names, text_of}
use Rattle.task.specs.Hashing.{compared, form_of, names_several, requested, stretch_of, wanted}
use Rattle.task.specs.Settings.{◌>>=◌, ◌>>◌, absent, file_or_input, files, given, hexadecimal, named, names_or_input}
use Rattle.task.specs.Settings.{needed, not_for, number, number_in, out_of_range, power_in, unless}
use Rattle.task.specs.declared.hashing.Requested.{Requested}
use Rattle.task.specs.declared.hashing.Stretch.{Stretch}
use Rattle.task.specs.declared.parameters.HmacHash.{HmacHash}
use Rattle.task.specs.declared.parameters.HmacHash.TheVariants as over
use Rattle.task.specs.declared.tagging.Mac.{Mac}
use Rattle.task.specs.declared.tagging.Mac.TheVariants.{Hmac, Blake2b, Blake2s, Blake3}
use Rattle.task.specs.declared.tasks.Reporting.{Reporting}

-- how a key is derived: by HKDF over a hash, with its length, the salt and the info, or under BLAKE3's context
pub data Derived : Type 0 where
  by_hkdf : Alg → ℕ → Option (List ℕ) → List ℕ → Derived
  by_blake3 : Text → ℕ → Derived

-- what is given as it is, or as the content of the file of this name
pub data Source (A : Type 0) : Type 0 where
  these : A → Source A
  in_file : Text → Source A

-- what is printed of a file: a digest, or a tag under a key, in digits or as it is
pub data Sum : Type 0 where
  digests : Requested → Sum
  tags : Mac → Bool → Source (List ℕ) → Sum

-- what a run is to do
pub data Asked : Type 0 where
  prints_lines : Sum → Source (List Text) → Share → Asked
  prints_line : Sum → Option (List ℕ) → Text → Text → Asked
  derives : Derived → Bool → Text → Asked
  checks : Option Kind → Reporting → Source Share → List Text → Asked
  checks_tags : Mac → ℕ → Source (List ℕ) → Reporting → Source Share → List Text → Asked
  prints_part : ℕ → Option ℕ → Text → Asked
  prints_starts : ℕ → Text → Asked
  prints_parts : ℕ → Text → Share → Asked
  verifies : Text → Text → Share → Asked
  joins : Stretch → Option ℕ → Option (List ℕ) → Text → List Text → Asked

-- the share that is asked for, or all, where other settings do not forbid one: of as many as the number behind a slash,
-- the one of the number before it, the first being 0
abbrev pub share_of : Result (Unit {0}) Text → Given → Result Share Text
share_of allowed g = option_map_or (λ t. do
  allowed
  n ← number_in 1 (2 ^ 64 - 1) (codes "--share") (after_first (λ b. b == 47) t)
  k ← number_in 0 (n - 1) (codes "--share") (before_first (λ b. b == 47) t)
  Ok (record { others = n - 1; waiting = k })) (text_of (codes "--share") g) (Ok (record { others = 0; waiting = 0 }))

-- the files of which a sum is printed: they are named by words, or in a file
abbrev pub names_of : Given → Result (Source (List Text)) Text
names_of g = option_map_or (λ list. do
  unless (nat_lt 0 (length (files g))) (codes "give only one of FILE and --files0-from\n")
  Ok (in_file list)) (text_of (codes "--files0-from") g) (Ok (these (names_or_input g)))

-- what is printed of them, a sum of so many bytes: a file whose sum is compared, or that has a name, is the only one; and
-- none in a share is standard input, which others would not have
abbrev pub of_files : Sum → ℕ → Given → Result Asked Text
of_files sum n g = do
  names ← names_of g
  name ← given (λ s t. unless (names_several g || not (bytes_eq (file_or_input g) (codes "-")))
      (codes "--name: standard input only\n") >> Ok t) (codes "--name") g
  bytes ← wanted n g
  share ← share_of (do
    unless (has_flag (codes "--raw") g) (codes "--share: not with --raw\n")
    unless (is_some bytes) (codes "--share: not with --verify\n")
    unless (not (is_some (text_of (codes "--files0-from") g)) && list_any (λ name. bytes_eq name (codes "-"))
        (names_or_input g)) (codes "--share: not of standard input\n")) g
  Ok (if is_some name || is_some bytes then prints_line sum bytes (unwrap_or name (file_or_input g)) (file_or_input g)
      else prints_lines sum names share)

-- that of `hash`
abbrev pub hash : Given → Result Asked Text
hash g = requested g >>= (λ r. of_files (digests r) r.stretch.length g)

-- the algorithm of a hash under HMAC, with its longest digests
abbrev pub hmac_alg : HmacHash → Alg
hmac_alg over.Sha256 = alg.Sha256
hmac_alg over.Sha512 = alg.Sha512
hmac_alg over.Blake2b = alg.Blake2b 64
hmac_alg over.Blake2s = alg.Blake2s 32

-- a keyed function with the length of its tags
abbrev pub tagged_by : (ℕ → Mac) → ℕ → ℕ → ℕ → Given → Result (Mac × ℕ) Text
tagged_by f default least most g = number default least most (codes "-l") g >>= (λ n. Ok (f n, n))

-- the keyed functions by name, each with its default, least and greatest length, which for BLAKE3 is so many bytes
abbrev pub macs : ℕ → List (Text × (Given → Result (Mac × ℕ) Text))
macs most = zip mac_names (tagged_by (Hmac over.Sha256) 32 16 32 ∷ tagged_by (Hmac over.Sha512) 64 32 64
    ∷ tagged_by (Hmac over.Blake2b) 64 32 64 ∷ tagged_by (Hmac over.Blake2s) 32 16 32
    ∷ tagged_by Blake2b 64 1 64 ∷ tagged_by Blake2s 32 1 32 ∷ tagged_by Blake3 32 1 most ∷ [])

-- what is told of a key that is given in none of two ways, or in both
abbrev pub one_key : Text
one_key = codes "give one of --key and --key-file\n"

-- a keyed function, the length of its tags, and its key, whose digits are judged first
abbrev pub under_key : ℕ → Given → Result (Mac × ℕ × Source (List ℕ)) Text
under_key most g = do
  m ← needed (named (macs most)) (codes "-a") g >>= (λ f. f g)
  key ← given hexadecimal (codes "--key") g
  unless (beq (is_some key) (is_some (text_of (codes "--key-file") g))) one_key
  Ok (m.0, m.1, option_map_or (λ f. in_file f) (text_of (codes "--key-file") g) (these (unwrap_or key [])))

-- that of `mac`
abbrev pub mac : Given → Result Asked Text
mac g = form_of g >> (under_key (2 ^ 64 - 1) g >>= (λ k. of_files (tags k.0 (has_flag (codes "--raw") g) k.2) k.1 g))

-- how a key is derived: BLAKE3's derivation takes a context; HKDF, which derives 255 times the digest at most, a salt and
-- an info
abbrev pub derived : Kind → Given → Result Derived Text
derived kind.Blake3 g = do
  absent not_for (codes "--salt" ∷ codes "--info" ∷ []) g
  context ← needed (λ s t. Ok t) (codes "--context") g
  n ← needed (number_in 1 (2 ^ 64 - 1)) (codes "-l") g
  Ok (by_blake3 context n)
derived k g = do
  absent not_for (codes "--context" ∷ []) g
  n ← needed (number_in 1 (255 * digest_len (longest k))) (codes "-l") g
  salt ← given hexadecimal (codes "--salt") g
  info ← given hexadecimal (codes "--info") g
  Ok (by_hkdf (longest k) n salt (unwrap_or info []))

-- that of `kdf`, and the file of its material
abbrev pub kdf : Given → Result Asked Text
kdf g = do
  by ← needed (named kinds) (codes "-a") g >>= (λ k. derived k g)
  material ← needed (λ s t. Ok t) (codes "--ikm-file") g
  Ok (derives by (has_flag (codes "--raw") g) material)

-- where `check` has the verdicts from: a report, or the files of a share of the entries
abbrev pub verdicts : Given → Result (Source Share) Text
verdicts g = option_map_or (λ t. absent (codes ": not with --report\n") (codes "--share" ∷ []) g >> Ok (in_file t))
    (text_of (codes "--report") g) (share_of (Ok tt) g >>= (λ s. Ok (these s)))

-- that of `check`: under a key the entries of lists are tags of at most 64 bytes; else digests, those of untagged
-- lines by this hash, if there is one, and any other name of `-a` is one of HMAC
abbrev pub check : Given → Result Asked Text
check g = (if is_some (text_of (codes "--key") g) || is_some (text_of (codes "--key-file") g)
    then under_key 64 g >>= (λ k. Ok (checks_tags k.0 k.1 k.2)) else (do
      kind ← given (λ s t. ok_or (lookup (bytes_eq t) kinds) one_key) (codes "-a") g
      absent not_for (codes "-l" ∷ []) g
      Ok (checks kind))) >>= (λ lists. verdicts g
    >>= (λ by. Ok (lists (record { is_summed = has_flag (codes "--summary") g }) by (names_or_input g))))

-- only BLAKE3 has parts
abbrev pub has_parts : Kind → Result (Unit {0}) Text
has_parts kind.Blake3 = Ok tt
has_parts k = Err (codes "-a: not for this command\n")

-- the least power of two that is at least n: 2 to the number of binary digits of n - 1
unfoldable pub least_power : ℕ → ℕ
least_power n = 2 ^ (64 - leading_zeros w64 (n - 1))

-- where the parts of a file begin, each a power of two of chunks behind the one before it; standard input has no
-- positions
abbrev pub starts : Given → Result Asked Text
starts g = do
  n ← needed (power_in (2 ^ 54)) (codes "--chunks") g
  absent (codes ": not with --list\n") (codes "--first" ∷ codes "--each" ∷ codes "--verify" ∷ codes "--share" ∷ []) g
  unless (bytes_eq (file_or_input g) (codes "-")) (codes "--list: not of standard input\n")
  Ok (prints_starts n (file_or_input g))

-- the share of the parts of a file, which is not standard input: the other shares would not have that
abbrev pub share_of_parts : Given → Result Share Text
share_of_parts g = share_of (unless (bytes_eq (file_or_input g) (codes "-")) (codes "--share: not of standard input\n")) g

-- whether a file has the parts that the lines of another one tell
abbrev pub verify : Text → Given → Result Asked Text
verify parts g = absent (codes ": not with --verify\n") (codes "--first" ∷ codes "--chunks" ∷ codes "--each" ∷ []) g
    >> (share_of_parts g >>= (λ share. Ok (verifies parts (file_or_input g) share)))

-- all parts of so many chunks, a power of two, one behind the other
abbrev pub each : Given → Result Asked Text
each g = do
  n ← needed (power_in (2 ^ 54)) (codes "--each") g
  absent (codes ": not with --each\n") (codes "--first" ∷ codes "--chunks" ∷ []) g
  share ← share_of_parts g
  Ok (prints_parts n (file_or_input g) share)

-- the first chunk of a part, and how many chunks it has at most: where that is given, such a power divides the first
abbrev pub one_part : Given → Result Asked Text
one_part g = do
  absent (codes ": not of one part\n") (codes "--share" ∷ []) g
  first ← number 0 0 (2 ^ 54 - 1) (codes "--first") g
  chunks ← given (number_in 1 (2 ^ 54)) (codes "--chunks") g
  unless (option_map_or (λ n. nat_lt 0 (first % least_power n)) chunks false) (out_of_range (codes "--first"))
  Ok (prints_part first chunks (file_or_input g))

-- that of `part`
abbrev pub part : Given → Result Asked Text
part g = needed (named kinds) (codes "-a") g >>= has_parts
    >> (if has_flag (codes "--list") g then starts g else option_map_or (λ t. verify t g) (text_of (codes "--verify") g)
    (if is_some (text_of (codes "--each") g) then each g else one_part g))

-- which bytes of the joined output are printed or compared, and how many bytes the parts have to have
abbrev pub join : Given → Result Asked Text
join g = do
  needed (named kinds) (codes "-a") g >>= has_parts
  stretch ← stretch_of 32 1 (2 ^ 64 - 1) g
  bytes ← given (number_in 0 (2 ^ 64 - 1)) (codes "--bytes") g
  digest ← given (compared stretch.length g) (codes "--verify") g
  Ok (joins stretch bytes digest (unwrap_or (text_of (codes "--name") g) (codes "-")) (names_or_input g))

-- the commands by name; nothing depends on `--progress`, which is for the feeds that a run is given
abbrev pub commands : List (Text × (Given → Result Asked Text))
commands = (codes "hash", hash) ∷ (codes "mac", mac) ∷ (codes "kdf", kdf) ∷ (codes "check", check)
    ∷ (codes "part", part) ∷ (codes "join", join) ∷ []

-- that of any command
abbrev pub asked : Given → Result Asked Text
asked g = named commands (codes "COMMAND") g.0 >>= (λ command. command g)
