use Rattle.std.proofs.lemmas.List.{drop-replicate}
use Rattle.std.proofs.Common.{refl}
use Rattle.mac.proofs.key.zero_padded.Goals as goal

pub returns : goal.returns
returns c = rw (drop-replicate, c.copy_from_slice.ensures.after) refl
