-- BLAKE2 without a key and with digests of full length: what contracts see of it, and its laws.
use Rattle.std.specs.Prelude.{◌≡◌, ℕ, ◌-◌, ◌^◌, List, [], length, refl}
use Rattle.std.proofs.Common.{ap}
use Rattle.words.specs.Blake2.{blake2b, blake2s, compress}
use Rattle.words.specs.Words.{word_bytes}
use Rattle.blake2.specs.Blake2.{blake2, final_value, from_list, message_limit, unsalted}
use Rattle.blake2.specs.inside.Hashers.{parameters_2b, parameters_2s}
use Rattle.blake2.specs.declared.blake2b.Blake2b.{Blake2b}
use Rattle.blake2.specs.declared.blake2s.Blake2s.{Blake2s}
use Rattle.mac.specs.declared.blake2_hash.Blake2b512.{Blake2b512}
use Rattle.mac.specs.declared.blake2_hash.Blake2s256.{Blake2s256}

-- the hasher of BLAKE2b
abbrev pub hasher_2b : Blake2b512 → Blake2b
hasher_2b s = s.hasher

-- the hasher of BLAKE2s
abbrev pub hasher_2s : Blake2s256 → Blake2s
hasher_2s s = s.hasher

-- without a key no block is taken from the limit
pub limit_2b : (s : Blake2b512)
    → message_limit (2 ^ 128 - 1) 128 (from_list blake2b (parameters_2b (hasher_2b s))).key ≡ 2 ^ 128 - 1
limit_2b s = ap (λ p. message_limit (2 ^ 128 - 1) 128 (from_list blake2b p).key) s.unkeyed

pub limit_2s : (s : Blake2s256)
    → message_limit (2 ^ 64 - 1) 64 (from_list blake2s (parameters_2s (hasher_2s s))).key ≡ 2 ^ 64 - 1
limit_2s s = ap (λ p. message_limit (2 ^ 64 - 1) 64 (from_list blake2s p).key) s.unkeyed

-- a digest is the bytes of eight words
pub length-blake2b : (m : List ℕ) → length (blake2 blake2b (unsalted blake2b 64 []) m) ≡ 64
unfolding blake2 final_value compress word_bytes
length-blake2b m = refl

pub length-blake2s : (m : List ℕ) → length (blake2 blake2s (unsalted blake2s 32 []) m) ≡ 32
unfolding blake2 final_value compress word_bytes
length-blake2s m = refl
