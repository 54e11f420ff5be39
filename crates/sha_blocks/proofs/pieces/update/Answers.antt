use Rattle.std.proofs.Common.{◌≡◌, ◌%◌, append_assoc, length, arith, refl}
use Rattle.sha_blocks.proofs.Taking.{HasTaken_short, IsAfter_all, IsAfter_filled}
use Rattle.sha_blocks.proofs.pieces.update.Goals as goal

pub returns-then-used-eq0 : goal.returns-then-used-eq0
returns-then-used-eq0 g c = λ m count held.
    let v = g.met.V.HashValue in
    let used : c.args.taken % g.row.N ≡ length m % g.row.N = rw count refl in
    c.take_from_block.ensures m _ (IsAfter_all g.V.HashValue.words_after g.V.HashValue.compressed g.row.N v.positive
    v.on_front v.next_block _ _ m held (omega arith))

pub returns-then-piece-space : goal.returns-then-piece-space
returns-then-piece-space g c = λ m count held.
    let v = g.met.V.HashValue in
    let used : c.args.taken % g.row.N ≡ length m % g.row.N = rw count refl in
    HasTaken_short g.V.HashValue.words_after g.V.HashValue.compressed g.row.N v.positive v.on_front v.next_block
    _ _ _ m c.args.piece.now held (omega arith) (rw count at c.write_at.ensures.front)

pub returns : goal.returns
returns g c = λ m count held.
    let v = g.met.V.HashValue in
    let used : c.args.taken % g.row.N ≡ length m % g.row.N = rw count refl in
    rw (c.split_at.ensures.by_index.0, ← append_assoc)
    (c.take_from_block-2.ensures _ _
    (IsAfter_filled g.V.HashValue.words_after g.V.HashValue.compressed g.row.N v.positive v.on_front v.next_block
    _ _ m c.split_at.result.0.now _ _ held (omega arith) c.compress.ensures.whole
    (rw count at c.write_at-2.ensures.front) c.compress.ensures.value))
