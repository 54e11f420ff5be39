-- The statuses that the calls answer: which refusal, or that all was done.
use Rattle.std.specs.Prelude.{ℕ, Option, Some, None, nat_eq, nat_lt, if◌then◌else◌, ◌||◌, ◌+◌, ◌-◌, ◌*◌, ◌/◌, ◌^◌}
use Rattle.blake2.specs.declared.fault.ParameterFault.{ParameterFault}
use Rattle.blake2.specs.declared.fault.ParameterFault.TheVariants.{DigestLength, KeyLength}
use Rattle.hash_c.specs.declared.statuses.TheConstants.{SUMS_DIGEST_LENGTH, SUMS_END_OF_OUTPUT, SUMS_INPUT_TOO_LONG}
use Rattle.hash_c.specs.declared.statuses.TheConstants.{SUMS_KEY_LENGTH, SUMS_OK, SUMS_OUTPUT_LENGTH, SUMS_PIECE_LENGTH}
use Rattle.pieces.specs.declared.fault.Fault.{Fault}
use Rattle.pieces.specs.declared.fault.Fault.TheVariants as pieces

infixr 10 ◌otherwise◌
-- the first of two statuses that is a refusal
abbrev pub ◌otherwise◌ : (first second : ℕ) → ℕ
first otherwise second = if nat_lt SUMS_OK first then first else second

-- of a digest length and a key length of BLAKE2
unfoldable pub parameter_status : Option ParameterFault → ℕ
parameter_status None = SUMS_OK
parameter_status (Some DigestLength) = SUMS_DIGEST_LENGTH
parameter_status (Some KeyLength) = SUMS_KEY_LENGTH

-- of the digests of pieces
unfoldable pub piece_status : Option Fault → ℕ
piece_status None = SUMS_OK
piece_status (Some pieces.DigestLength) = SUMS_DIGEST_LENGTH
piece_status (Some pieces.PieceLength) = SUMS_PIECE_LENGTH
piece_status (Some pieces.OutputLength) = SUMS_OUTPUT_LENGTH

-- of a key, if the hash function has inputs of at most `limit` bytes
abbrev pub key_status : (limit key_length : ℕ) → ℕ
key_status limit key_length = if nat_lt limit key_length then SUMS_KEY_LENGTH else SUMS_OK

-- of a message that would have n bytes, if it may have at most `limit`
abbrev pub input_status : (limit n : ℕ) → ℕ
input_status limit n = if nat_lt limit n then SUMS_INPUT_TOO_LONG else SUMS_OK

-- of n bytes of BLAKE3's output from a position on
abbrev pub output_status : (position n : ℕ) → ℕ
output_status position n = if nat_lt (2 ^ 64 - 1) (position + n) then SUMS_END_OF_OUTPUT else SUMS_OK

-- of a digest of n bytes, if the message was begun for one of `wanted`
abbrev pub length_status : (wanted n : ℕ) → ℕ
length_status wanted n = if nat_eq wanted n then SUMS_OK else SUMS_DIGEST_LENGTH

-- of the first n bytes of a digest of `out` bytes
abbrev pub tag_status : (out n : ℕ) → ℕ
tag_status out n = if nat_lt n (out / 2) || nat_lt out n then SUMS_DIGEST_LENGTH else SUMS_OK

-- of a key and a text of HMAC, if the hash function has blocks of `block` bytes and inputs of at most `limit`
abbrev pub keyed_status : (block limit key_length text_length : ℕ) → ℕ
keyed_status block limit key_length text_length =
    key_status limit key_length otherwise input_status (limit - block) text_length

-- of the first n bytes of an HMAC, if the hash function has digests of `out` bytes
abbrev pub hmac_status : (block out limit n key_length text_length : ℕ) → ℕ
hmac_status block out limit n key_length text_length =
    tag_status out n otherwise keyed_status block limit key_length text_length

-- of n bytes of HKDF-Expand, for which the key is at least as long as a digest
abbrev pub expand_status : (block out limit n key_length info_length : ℕ) → ℕ
expand_status block out limit n key_length info_length =
    if nat_lt key_length out || nat_lt limit key_length then SUMS_KEY_LENGTH
    else if nat_lt (255 * out) n then SUMS_END_OF_OUTPUT
    else input_status limit (block + out + info_length + 1)

-- of n bytes of HKDF: of its first step, and then of its second, for which the key is a digest
abbrev pub hkdf_status : (block out limit n material_length salt_length info_length : ℕ) → ℕ
hkdf_status block out limit n material_length salt_length info_length =
    keyed_status block limit salt_length material_length otherwise expand_status block out limit n out info_length
