-- Tags of the definition, computed, against RFC 4231: a wrong pad or a wrong key does not check.
use Rattle.std.proofs.Common.{◌≡◌, [], ◌∷◌, codes, replicate, refl}
use Rattle.sha2.specs.Sha256.{sha256, digest_bytes, hash_after, compress, rounds, schedule, first_words}
use Rattle.mac.specs.Hmac.{hmac, hmac_of_block_key, block_sized_key}

-- a key shorter than a block (case 2)
pub hmac_sha256-short_key : hmac sha256 64 (codes "Jefe") (codes "what do ya want for nothing?") ≡
    0x5b ∷ 0xdc ∷ 0xc1 ∷ 0x46 ∷ 0xbf ∷ 0x60 ∷ 0x75 ∷ 0x4e ∷ 0x6a ∷ 0x04 ∷ 0x24 ∷ 0x26 ∷ 0x08 ∷ 0x95 ∷ 0x75 ∷ 0xc7
    ∷ 0x5a ∷ 0x00 ∷ 0x3f ∷ 0x08 ∷ 0x9d ∷ 0x27 ∷ 0x39 ∷ 0x83 ∷ 0x9d ∷ 0xec ∷ 0x58 ∷ 0xb9 ∷ 0x64 ∷ 0xec ∷ 0x38 ∷ 0x43 ∷ []
unfolding sha256 digest_bytes hash_after compress rounds schedule first_words hmac_of_block_key block_sized_key
hmac_sha256-short_key = refl

-- a key longer than a block, which is hashed first (case 6)
pub hmac_sha256-long_key : hmac sha256 64 (replicate 131 0xaa)
    (codes "Test Using Larger Than Block-Size Key - Hash Key First") ≡
    0x60 ∷ 0xe4 ∷ 0x31 ∷ 0x59 ∷ 0x1e ∷ 0xe0 ∷ 0xb6 ∷ 0x7f ∷ 0x0d ∷ 0x8a ∷ 0x26 ∷ 0xaa ∷ 0xcb ∷ 0xf5 ∷ 0xb7 ∷ 0x7f
    ∷ 0x8e ∷ 0x0b ∷ 0xc6 ∷ 0x21 ∷ 0x37 ∷ 0x28 ∷ 0xc5 ∷ 0x14 ∷ 0x05 ∷ 0x46 ∷ 0x04 ∷ 0x0f ∷ 0x0e ∷ 0xe3 ∷ 0x7f ∷ 0x54 ∷ []
unfolding sha256 digest_bytes hash_after compress rounds schedule first_words hmac_of_block_key block_sized_key
hmac_sha256-long_key = refl
