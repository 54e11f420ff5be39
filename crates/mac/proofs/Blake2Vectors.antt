-- A tag over BLAKE2s-256, computed, against Python's hmac: a wrong function or length of blocks does not check.
use Rattle.std.proofs.Common.{◌≡◌, [], ◌∷◌, codes, refl}
use Rattle.words.specs.Blake2.{blake2s, compress, rounds}
use Rattle.words.specs.Mix.{g, g_at, round}
use Rattle.words.specs.Words.{words, word_bytes}
use Rattle.blake2.specs.Blake2.{block_len, block_count, start, key_block, chain, final_value, blake2, unsalted}
use Rattle.mac.specs.Hmac.{hmac, hmac_of_block_key, block_sized_key}

-- the key and the text of case 2 of RFC 4231
pub hmac_blake2s-short_key : hmac (blake2 blake2s (unsalted blake2s 32 [])) 64 (codes "Jefe")
    (codes "what do ya want for nothing?") ≡
    0x90 ∷ 0xb6 ∷ 0x28 ∷ 0x1e ∷ 0x2f ∷ 0x30 ∷ 0x38 ∷ 0xc9 ∷ 0x05 ∷ 0x6a ∷ 0xf0 ∷ 0xb4 ∷ 0xa7 ∷ 0xe7 ∷ 0x63 ∷ 0xca ∷
    0xe6 ∷ 0xfe ∷ 0x5d ∷ 0x9e ∷ 0xb4 ∷ 0x38 ∷ 0x6a ∷ 0x0e ∷ 0xc9 ∷ 0x52 ∷ 0x37 ∷ 0x89 ∷ 0x0c ∷ 0x10 ∷ 0x4f ∷ 0xf0 ∷ []
unfolding g g_at round rounds compress words word_bytes block_len block_count start key_block chain final_value blake2
    hmac_of_block_key block_sized_key
hmac_blake2s-short_key = refl
