use Rattle.std.proofs.Common.{[], arith, refl}
use Rattle.sha_blocks.proofs.Taking.{HasTaken_from}
use Rattle.sha_blocks.proofs.pieces.begin.Goals as goal

pub returns : goal.returns
returns g c =
    let v = g.met.V.HashValue in
    HasTaken_from g.V.HashValue.words_after g.V.HashValue.compressed g.row.N v.positive v.on_front v.next_block
    _ _ [] [] 0 (omega arith, c.start.ensures) v.positive refl
