-- Steps of the commands, which are functions of the code.
use Rattle.std.specs.Prelude.{ℕ, ◌-◌, ◌*◌, ◌/◌, ◌^◌, ◌==◌, ◌&&◌, ◌||◌, Bool, List, [], ◌∷◌, Option, Result, Ok, codes}
use Rattle.std.specs.Prelude.{if◌then◌else◌, is_some, not, ok_or, unwrap_or}
use Rattle.std.specs.Bool.{beq}
use Rattle.std.specs.List.{after_first, before_first, list_any}
use Rattle.std.specs.Map.{lookup}
use Rattle.std.specs.Option.{option_map_or}
use Rattle.std.specs.Str.{bytes_eq}
use Rattle.hashes.specs.Digest.{digest_len}
use Rattle.hashes.specs.Kinds.{kinds}
use Rattle.hashes.specs.declared.alg.Alg.{Alg}
use Rattle.hashes.specs.declared.share.Share.{Share}
use Rattle.request.specs.CommandLine.{Given, Text, has_flag, text_of}
use Rattle.task.specs.Hashing.{names_several}
use Rattle.task.specs.Settings.{◌>>=◌, ◌>>◌, absent, file_or_input, given, hexadecimal, named, names_or_input, needed, not_for}
use Rattle.task.specs.Settings.{number_in, unless}
use Rattle.task.specs.Tasks.{Asked, Derived, Source, by_hkdf, checks, checks_tags, derived, has_parts, hmac_alg, in_file, macs}
use Rattle.task.specs.Tasks.{one_key, tagged_by, these, under_key}
use Rattle.task.specs.declared.parameters.HmacHash.{HmacHash}
use Rattle.task.specs.declared.tagging.Mac.{Mac}
use Rattle.task.specs.declared.tagging.Mac.TheVariants.{Hmac}
use Rattle.task.specs.declared.tasks.Reporting.{Reporting}

-- the keyed function of a request, with the length of its tags, which for BLAKE3 is so many bytes at most
abbrev pub mac_of : ℕ → Given → Result (Mac × ℕ) Text
mac_of most g = needed (named (macs most)) (codes "-a") g >>= (λ f. f g)

-- the key of a request
abbrev pub key_of : Given → Result (Source (List ℕ)) Text
key_of g = do
  key ← given hexadecimal (codes "--key") g
  unless (beq (is_some key) (is_some (text_of (codes "--key-file") g))) one_key
  Ok (option_map_or (λ f. in_file f) (text_of (codes "--key-file") g) (these (unwrap_or key [])))

-- the name that a request gives to standard input
abbrev pub input_name : Given → Result (Option Text) Text
input_name g = given (λ s t. unless (names_several g || not (bytes_eq (file_or_input g) (codes "-")))
    (codes "--name: standard input only\n") >> Ok t) (codes "--name") g

-- what is asked of lists: under a key, that they have its tags, else digests
abbrev pub entries : Given → Result (Reporting → Source Share → List Text → Asked) Text
entries g = if is_some (text_of (codes "--key") g) || is_some (text_of (codes "--key-file") g)
    then under_key 64 g >>= (λ k. Ok (checks_tags k.0 k.1 k.2)) else (do
      kind ← given (λ s t. ok_or (lookup (bytes_eq t) kinds) one_key) (codes "-a") g
      absent not_for (codes "-l" ∷ []) g
      Ok (checks kind))

-- how a request of `kdf` has a key derived
abbrev pub derivation_of : Given → Result Derived Text
derivation_of g = needed (named kinds) (codes "-a") g >>= (λ k. derived k g)

-- by HKDF over a hash with this algorithm
abbrev pub hkdf : Alg → Given → Result Derived Text
hkdf a g = do
  absent not_for (codes "--context" ∷ []) g
  n ← needed (number_in 1 (255 * digest_len a)) (codes "-l") g
  salt ← given hexadecimal (codes "--salt") g
  info ← given hexadecimal (codes "--info") g
  Ok (by_hkdf a n salt (unwrap_or info []))

-- HMAC with so many bytes of a tag: cut to the half of the digest at most
abbrev pub hmac : HmacHash → Given → Result (Mac × ℕ) Text
hmac h = let n = digest_len (hmac_alg h) in tagged_by (Hmac h) n (n / 2) n

-- that a request of `part` or `join` is for BLAKE3
abbrev pub names_blake3 : Given → Result (Unit {0}) Text
names_blake3 g = needed (named kinds) (codes "-a") g >>= has_parts

-- whether a file is standard input that is named by words, or for want of them
abbrev pub reads_input : Given → Bool
reads_input g = not (is_some (text_of (codes "--files0-from") g))
    && list_any (λ name. bytes_eq name (codes "-")) (names_or_input g)

-- whether a share of the files may be asked for
abbrev pub allows_share : Bool → Given → Result (Unit {0}) Text
allows_share is_compared g = do
  unless (has_flag (codes "--raw") g) (codes "--share: not with --raw\n")
  unless is_compared (codes "--share: not with --verify\n")
  unless (reads_input g) (codes "--share: not of standard input\n")

-- the share that a text spells
abbrev pub share_in : Text → Result Share Text
share_in t = do
  n ← number_in 1 (2 ^ 64 - 1) (codes "--share") (after_first (λ b. b == 47) t)
  k ← number_in 0 (n - 1) (codes "--share") (before_first (λ b. b == 47) t)
  Ok (record { others = n - 1; waiting = k })
