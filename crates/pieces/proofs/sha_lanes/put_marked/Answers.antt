use Rattle.std.proofs.Common.{refl}
use Rattle.blake2.proofs.Starting.{padded_from}
use Rattle.pieces.proofs.Tails.{marked_from}
use Rattle.pieces.proofs.sha_lanes.put_marked.Goals as goal

pub returns : goal.returns
returns g c =
    marked_from g.row.N _ c.args.bytes.now c.write_at.new.buffer refl c.requires.short
    (padded_from g.row.N c.write_at.new.buffer c.args.bytes.now c.write_at.ensures.front
    (rw c.requires.zeros at c.write_at.ensures.rest))
