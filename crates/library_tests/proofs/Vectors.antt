-- Keys by the definition of HKDF over BLAKE2s-256, computed: a wrong salt, counter or order of T(1) and T(2)
-- does not check. The inputs are those of RFC 5869, appendix A.1, the keys from Python's hmac and from
-- OpenSSL. They stand here, since `kdf` itself names no hash function.
use Rattle.std.proofs.Common.{◌≡◌, ℕ, List, [], ◌∷◌, replicate, refl}
use Rattle.std.specs.Prelude.{Some}
use Rattle.words.specs.Blake2.{blake2s, compress, rounds}
use Rattle.words.specs.Mix.{g, g_at, round}
use Rattle.words.specs.Words.{words, word_bytes}
use Rattle.blake2.specs.Blake2.{block_len, block_count, start, key_block, chain, final_value, blake2, unsalted}
use Rattle.mac.specs.Hmac.{hmac_of_block_key, block_sized_key}
use Rattle.kdf.specs.Hkdf.{extract, expand, expand_block, expand_blocks}

-- BLAKE2s-256
abbrev hash : List ℕ → List ℕ
hash = blake2 blake2s (unsalted blake2s 32 [])

-- the pseudorandom key
abbrev prk : List ℕ
prk =
    0x57 ∷ 0xe8 ∷ 0x78 ∷ 0x13 ∷ 0x06 ∷ 0x79 ∷ 0xf9 ∷ 0xea ∷ 0x85 ∷ 0x90 ∷ 0x09 ∷ 0x80 ∷ 0xb5 ∷ 0x2d ∷ 0xf2 ∷ 0x64 ∷
    0x3d ∷ 0x04 ∷ 0x3b ∷ 0x82 ∷ 0xf2 ∷ 0x90 ∷ 0xeb ∷ 0x7d ∷ 0xd6 ∷ 0x21 ∷ 0x75 ∷ 0xdb ∷ 0xb0 ∷ 0x4c ∷ 0xca ∷ 0x4e ∷ []

pub extract_blake2s : extract hash 64 32
    (Some (0 ∷ 1 ∷ 2 ∷ 3 ∷ 4 ∷ 5 ∷ 6 ∷ 7 ∷ 8 ∷ 9 ∷ 10 ∷ 11 ∷ 12 ∷ [])) (replicate 22 0x0b) ≡ prk
unfolding g g_at round rounds compress words word_bytes block_len block_count start key_block chain final_value blake2
    hmac_of_block_key block_sized_key
extract_blake2s = refl

-- T(1) and the beginning of T(2)
pub expand_blake2s : expand hash 64 prk
    (0xf0 ∷ 0xf1 ∷ 0xf2 ∷ 0xf3 ∷ 0xf4 ∷ 0xf5 ∷ 0xf6 ∷ 0xf7 ∷ 0xf8 ∷ 0xf9 ∷ []) 42 ≡
    0x14 ∷ 0x72 ∷ 0xc3 ∷ 0x1f ∷ 0x2f ∷ 0xf7 ∷ 0x68 ∷ 0xc7 ∷ 0x1b ∷ 0x19 ∷ 0xf8 ∷ 0x80 ∷ 0x36 ∷ 0x83 ∷ 0xee ∷ 0x3b ∷
    0x13 ∷ 0xc1 ∷ 0xa5 ∷ 0xfb ∷ 0x3e ∷ 0xa5 ∷ 0x9c ∷ 0x0c ∷ 0x3b ∷ 0xf0 ∷ 0xd4 ∷ 0x4a ∷ 0x4a ∷ 0x40 ∷ 0xdc ∷ 0xd4 ∷
    0x32 ∷ 0x9d ∷ 0x9c ∷ 0xd8 ∷ 0x5b ∷ 0xbe ∷ 0x35 ∷ 0xa1 ∷ 0xb3 ∷ 0xe7 ∷ []
unfolding g g_at round rounds compress words word_bytes block_len block_count start key_block chain final_value blake2
    hmac_of_block_key block_sized_key expand_block expand_blocks
expand_blake2s = refl
