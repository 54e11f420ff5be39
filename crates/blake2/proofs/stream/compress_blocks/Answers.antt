use Rattle.std.proofs.Common.{◌≡◌, ◌+◌, ◌*◌, refl, length, arith}
use Rattle.blake2.specs.Blake2.{block_len}
use Rattle.blake2.proofs.Holding.{IsChained_more}
use Rattle.blake2.proofs.stream.compress_blocks.Goals as goal

pub blocks-2-preserved : goal.blocks-2-preserved
blocks-2-preserved g c = record {
  at = omega arith;
  none = λ e. absurd (omega arith);
  single = λ b e some.
      let len : length c.args.blocks.now ≡ 1 = rw e refl in
      let first : c.blocks-2.block-index ≡ 0 = omega arith in
      let is : c.block-item.result ≡ b = rw (e, first) at c.block-item.is in
      let at : c.blocks-2.count ≡ c.args.compressed + c.args.step * 0 = rw first at c.blocks-2.invariant.at in
      let count : c.blocks-2.count + c.args.step ≡ c.args.compressed + c.args.step = omega arith in
      (rw is at c.compress.ensures.whole, rw (c.blocks-2.invariant.none first, is, count) at c.compress.ensures.value);
  chained = λ s p n unmarked e begun held.
      let w : g.row.N ≡ block_len g.C.Chain.variant = g.met.C.Chain.block in
      let steps : c.args.step * c.blocks-2.block-index ≡ g.row.N * c.blocks-2.block-index = rw e refl in
      let split : (n + c.blocks-2.block-index) * g.row.N ≡ g.row.N * n + g.row.N * c.blocks-2.block-index =
      omega arith in
      IsChained_more g.C.Chain.variant s p _ _ c.block-item.result c.args.blocks.now n c.blocks-2.block-index
      (c.blocks-2.count + c.args.step)
      (c.blocks-2.invariant.chained s p n unmarked e begun held) (omega arith) c.block-item.is
      (rw (← w) c.compress.ensures.whole)
      (rw (← w) (omega arith)) (rw unmarked at c.compress.ensures.value);
}
