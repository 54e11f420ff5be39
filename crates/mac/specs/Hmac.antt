-- HMAC (RFC 2104, section 2) over any hash function, on lists of bytes.
use Rattle.std.specs.Prelude.{ℕ, List, ◌++◌, length, map, bit_xor, nat_lt, if◌then◌else◌}
use Rattle.words.specs.Words.{padded}

-- each byte xored with c
abbrev pub xored : ℕ → List ℕ → List ℕ
xored c bytes = map (λ b. bit_xor b c) bytes

-- the key as one block of n bytes: hashed first only if it is longer than a block, then padded with zeros
unfoldable pub block_sized_key : (List ℕ → List ℕ) → ℕ → List ℕ → List ℕ
block_sized_key hash n key = padded n (if nat_lt n (length key) then hash key else key)

-- the tag of a text under a key that is one block: 0x36 and 0x5c are the bytes of ipad and opad
unfoldable pub hmac_of_block_key : (List ℕ → List ℕ) → List ℕ → List ℕ → List ℕ
hmac_of_block_key hash k text = hash (xored 0x5c k ++ hash (xored 0x36 k ++ text))

-- the tag of a text under a key of any length, for a hash function with blocks of n bytes
abbrev pub hmac : (List ℕ → List ℕ) → ℕ → List ℕ → List ℕ → List ℕ
hmac hash n key text = hmac_of_block_key hash (block_sized_key hash n key) text
