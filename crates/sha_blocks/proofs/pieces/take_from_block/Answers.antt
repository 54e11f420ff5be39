use Rattle.sha_blocks.proofs.Taking.{HasTaken_blocks}
use Rattle.sha_blocks.proofs.pieces.take_from_block.Goals as goal

pub returns : goal.returns
returns g c = λ p k before.
    let v = g.met.V.HashValue in
    HasTaken_blocks g.V.HashValue.words_after g.V.HashValue.compressed g.row.N v.positive v.on_front v.next_block
    _ p c.args.bytes.now _ _ _ _ k before c.compress_all.ensures.whole c.compress_all.ensures.value
    c.as_chunks.ensures.front c.as_chunks.ensures.back c.as_chunks.ensures.back_len c.write_at.ensures.front
