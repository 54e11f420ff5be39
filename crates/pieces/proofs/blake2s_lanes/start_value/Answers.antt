use Rattle.std.proofs.Common.{refl}
use Rattle.words.specs.Words.{words}
use Rattle.blake2.specs.Blake2.{start}
use Rattle.pieces.proofs.blake2s_lanes.start_value.Goals as goal

pub returns : goal.returns
unfolding start words
returns c = refl
