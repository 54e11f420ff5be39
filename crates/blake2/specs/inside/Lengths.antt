-- The block lengths in numbers.
use Rattle.std.specs.Prelude.{◌≡◌, refl}
use Rattle.words.specs.Blake2.{blake2b, blake2s}
use Rattle.blake2.specs.Blake2.{block_len}

pub block_len_2b : 128 ≡ block_len blake2b
unfolding block_len
block_len_2b = refl

pub block_len_2s : 64 ≡ block_len blake2s
unfolding block_len
block_len_2s = refl
