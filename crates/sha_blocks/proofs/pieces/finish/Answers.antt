use Rattle.std.proofs.Common.{◌≡◌, ◌%◌, refl, length, arith}
use Rattle.std.proofs.Math.Nat.{mod-lt}
use Rattle.sha_blocks.proofs.Taking.{padded_here, padded_over, padding_begins}
use Rattle.sha_blocks.proofs.pieces.finish.Goals as goal

pub returns-then-used-end : goal.returns-then-used-end
returns-then-used-end g c = λ m taken held p is.
    let v = g.met.V.HashValue in
    let n = g.row.N in
    let used : c.args.taken % n ≡ length m % n = rw taken refl in
    padded_here g.V.HashValue.words_after g.V.HashValue.compressed n v.positive v.on_front v.next_block
    _ _ m _ _ _ _ _ p held (omega arith) (padding_begins n _ (omega arith) (omega arith))
    (rw used at c.write_at.ensures.front)
    c.take_ended.ensures.whole c.take_ended.ensures.block c.take_ended.ensures.value is

pub returns : goal.returns
returns g c = λ m taken held p is.
    let v = g.met.V.HashValue in
    let n = g.row.N in
    let used : c.args.taken % n ≡ length m % n = rw taken refl in
    let below = mod-lt (length m) v.positive in
    padded_over g.V.HashValue.words_after g.V.HashValue.compressed n v.positive v.on_front v.next_block
    _ _ m _ _ _ _ _ _ p held (omega arith) c.requires (padding_begins n _ (omega arith) (omega arith))
    (rw used at c.write_at-2.ensures.front) c.compress.ensures.whole c.compress.ensures.value
    c.take_ended-2.ensures.whole c.take_ended-2.ensures.block c.take_ended-2.ensures.value is
