use Rattle.blake2.proofs.Starting.{padded_from}
use Rattle.blake2.proofs.stream.padded_block.Goals as goal

pub returns : goal.returns
returns g c = padded_from g.row.N _ c.args.bytes.now c.write_at.ensures.front c.write_at.ensures.rest
