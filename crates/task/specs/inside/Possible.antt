-- What holds of what a task asks for: digests, tags and keys have lengths that there are, and parts begin where they
-- can.
use Rattle.std.specs.Prelude.{◌≡◌, ℕ, ◌+◌, ◌/◌, ◌-◌, ◌%◌, ◌^◌, ◌<◌, ◌≤◌, Option, IfSome, count_ones}
use Rattle.b3.specs.Parts.{IsLeastPowerFrom}
use Rattle.hashes.specs.declared.alg.TheConstants.{BLAKE2B_LEN, BLAKE2S_LEN}
use Rattle.hashes.specs.Digest.{digest_len}
use Rattle.hashes.specs.Kinds.{longest}
use Rattle.hashes.specs.declared.kind.Kind.TheVariants as kind
use Rattle.task.specs.Hashing.{lengths}
use Rattle.task.specs.Tasks.{hmac_alg}
use Rattle.task.specs.declared.hashing.Form.{Form}
use Rattle.task.specs.declared.hashing.Hash.{Hash}
use Rattle.task.specs.declared.hashing.Hash.TheVariants as hash
use Rattle.task.specs.declared.hashing.Requested.{Requested}
use Rattle.task.specs.declared.tagging.Mac.{Mac}
use Rattle.task.specs.declared.tagging.Mac.TheVariants.{Hmac, Blake2b, Blake2s, Blake3}

-- the least and the greatest length of a hash's digests
abbrev pub lengths_of : Hash → Form → ℕ × ℕ
lengths_of (hash.Whole k) form = (digest_len (longest k), digest_len (longest k))
lengths_of (hash.Blake2b salt personal) form = lengths kind.Blake2b form
lengths_of (hash.Blake2s salt personal) form = lengths kind.Blake2s form
lengths_of hash.Blake3 form = lengths kind.Blake3 form

-- there are digests of the length that is asked for, and the bytes do not pass their end
abbrev pub HasDigest : Requested → Type 0
HasDigest r = let range = lengths_of r.hash r.form in
    (range.0 ≤ r.stretch.length) × (r.stretch.position + r.stretch.length ≤ range.1)

-- a part has a power of two of chunks, at most 1024
abbrev pub IsPartSize : ℕ → Type 0
IsPartSize n = (count_ones n ≡ 1) × (n ≤ 1024)

-- the length of a function's tags
abbrev pub mac_len : Mac → ℕ
mac_len (Hmac h n) = n
mac_len (Blake2b n) = n
mac_len (Blake2s n) = n
mac_len (Blake3 n) = n

-- the least and the greatest
abbrev pub least_len : Mac → ℕ
least_len (Hmac h n) = digest_len (hmac_alg h) / 2
least_len mac = 1

abbrev pub most_len : Mac → ℕ
most_len (Hmac h n) = digest_len (hmac_alg h)
most_len (Blake2b n) = BLAKE2B_LEN
most_len (Blake2s n) = BLAKE2S_LEN
most_len (Blake3 n) = 2 ^ 64 - 1

-- the function has tags of this length
abbrev pub HasTag : Mac → Type 0
HasTag mac = (least_len mac ≤ mac_len mac) × (mac_len mac ≤ most_len mac)

-- so many chunks can begin there as one subtree
abbrev pub HasRoom : ℕ → ℕ → Type 0
HasRoom first n = (1 ≤ n) × (n ≤ 2 ^ 54) × ((p : ℕ) → IsLeastPowerFrom p n → first % p ≡ 0)

abbrev pub IsPlace : ℕ → Option ℕ → Type 0
IsPlace first chunks = (first < 2 ^ 54) × IfSome chunks (HasRoom first)

-- all parts of a file but the last can have so many chunks
abbrev pub IsPartLength : ℕ → Type 0
IsPartLength n = (1 ≤ n) × (n ≤ 2 ^ 54) × (count_ones n ≡ 1)
