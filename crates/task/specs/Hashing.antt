-- What a `hash` request prints, or the first fault of its settings.
use Rattle.std.specs.Prelude.{ℕ, ◌-◌, ◌/◌, ◌^◌, ◌++◌, ◌||◌, ◌==◌, Bool, List, [], ◌∷◌, length, Option, Some}
use Rattle.std.specs.Prelude.{Result, Ok, codes, drop, is_some, max, min, nat_lt, unwrap_or, if◌then◌else◌}
use Rattle.std.specs.List.{starts_with}
use Rattle.std.specs.Option.{option_map_or}
use Rattle.hashes.specs.Digest.{digest_len}
use Rattle.hashes.specs.declared.alg.Alg.{Alg}
use Rattle.hashes.specs.declared.alg.Alg.TheVariants as alg
use Rattle.hashes.specs.Kinds.{kinds, longest}
use Rattle.hashes.specs.declared.kind.Kind.{Kind}
use Rattle.hashes.specs.declared.kind.Kind.TheVariants as kind
use Rattle.request.specs.CommandLine.{Given, Text, has_flag, text_of}
use Rattle.task.specs.Settings.{◌>>=◌, ◌>>◌, absent, files, given, hexadecimal, named, needed, not_for, number}
use Rattle.task.specs.Settings.{power_in, sized, unless}
use Rattle.task.specs.declared.hashing.Form.{Form}
use Rattle.task.specs.declared.hashing.Form.TheVariants.{Plain, Raw, Tagged}
use Rattle.task.specs.declared.hashing.Hash.{Hash}
use Rattle.task.specs.declared.hashing.Hash.TheVariants as hash
use Rattle.task.specs.declared.hashing.Requested.{Requested}
use Rattle.task.specs.declared.hashing.Stretch.{Stretch}

-- the settings that a hash does not have
abbrev pub others : Kind → List Text
others kind.Blake2b = codes "--seek" ∷ codes "--parts" ∷ []
others kind.Blake2s = codes "--seek" ∷ codes "--parts" ∷ []
others kind.Blake3 = codes "--salt" ∷ codes "--personal" ∷ []
others _ = codes "-l" ∷ codes "--seek" ∷ codes "--salt" ∷ codes "--personal" ∷ codes "--parts" ∷ []

-- the request may name more than one file
abbrev pub names_several : Given → Bool
names_several g = nat_lt 1 (length (files g)) || is_some (text_of (codes "--files0-from") g)

-- how a digest is printed: as raw bytes there is no line, and one file only
abbrev pub form_of : Given → Result Form Text
form_of g = if has_flag (codes "--raw") g then (do
  unless (has_flag (codes "--tag") g) (codes "--raw: not with --tag\n")
  unless (names_several g) (codes "--raw: one file only\n")
  Ok Raw) else Ok (if has_flag (codes "--tag") g then Tagged else Plain)

-- the least and the greatest length of a digest; the label of BLAKE3 stands for the first 32 bytes of its output, which
-- is much longer without it
abbrev pub lengths : Kind → Form → ℕ × ℕ
lengths kind.Blake2b form = (1, 64)
lengths kind.Blake2s form = (1, 32)
lengths kind.Blake3 Tagged = (32, 32)
lengths kind.Blake3 form = (1, 2 ^ 64 - 1)
lengths k form = (digest_len (longest k), digest_len (longest k))

-- the digits in the text of `--verify`, which the name of `-a` and a colon may precede
abbrev pub digits_of : Given → Text → Text
digits_of g t = let name = unwrap_or (text_of (codes "-a") g) [] ++ codes ":" in
    if starts_with ◌==◌ t name then drop (length name) t else t

-- the length of a digest if `-l` is not given: 32 for BLAKE3; otherwise the greatest, or as many bytes as the digits of
-- `--verify` spell if these are fewer, but at least the least
abbrev pub default_len : Kind → ℕ × ℕ → Given → ℕ
default_len kind.Blake3 (least, most) g = 32
default_len k (least, most) g =
    option_map_or (λ t. max least (min most (length (digits_of g t) / 2))) (text_of (codes "--verify") g) most

-- the bytes that `-l` and `--seek` select, none of them after the last one
abbrev pub stretch_of : ℕ → ℕ → ℕ → Given → Result Stretch Text
stretch_of default least most g = do
  n ← number default least most (codes "-l") g
  position ← number 0 0 (most - n) (codes "--seek") g
  Ok (record { position = position; length = n })

-- a salt and a personalization of n bytes each: the digits of both are checked before the length of either
abbrev pub salts : ℕ → Given → Result (List ℕ × List ℕ) Text
salts n g = do
  salt ← given hexadecimal (codes "--salt") g
  personal ← given hexadecimal (codes "--personal") g
  salt ← sized n (codes "--salt") salt
  personal ← sized n (codes "--personal") personal
  Ok (salt, personal)

-- the hash, and what BLAKE2 takes besides its input
abbrev pub hash_of : Kind → Given → Result Hash Text
hash_of kind.Blake2b g = salts 16 g >>= (λ s. Ok (hash.Blake2b s.0 s.1))
hash_of kind.Blake2s g = salts 8 g >>= (λ s. Ok (hash.Blake2s s.0 s.1))
hash_of kind.Blake3 g = Ok hash.Blake3
hash_of k g = Ok (hash.Whole k)

-- what is printed for each file, by `-a`; the number of chunks in a part is checked, and makes no difference to it
abbrev pub requested : Given → Result Requested Text
requested g = do
  kind ← needed (named kinds) (codes "-a") g
  absent not_for (others kind) g
  form ← form_of g
  stretch ← stretch_of (default_len kind (lengths kind form) g) (lengths kind form).0 (lengths kind form).1 g
  hash ← hash_of kind g
  given (power_in 1024) (codes "--parts") g
  Ok (record { hash = hash; stretch = stretch; form = form })

-- the algorithm of a digest of n bytes
abbrev pub alg_of : Hash → ℕ → Alg
alg_of (hash.Whole k) n = longest k
alg_of (hash.Blake2b salt personal) n = alg.Blake2b n
alg_of (hash.Blake2s salt personal) n = alg.Blake2s n
alg_of hash.Blake3 n = alg.Blake3

-- a digest or tag in digits, as long as the one that would be printed
abbrev pub compared : ℕ → Given → Text → Text → Result (List ℕ) Text
compared n g s t = hexadecimal s (digits_of g t) >>= (λ bytes. sized n s (Some bytes))

-- the digest of `--verify`, which is for one file, in the form of digits
abbrev pub wanted : ℕ → Given → Result (Option (List ℕ)) Text
wanted n g = given (λ s t. do
  unless (has_flag (codes "--tag") g) (codes "--verify: not with --tag\n")
  unless (has_flag (codes "--raw") g) (codes "--verify: not with --raw\n")
  unless (names_several g) (codes "--verify: one file only\n")
  compared n g s t) (codes "--verify") g
