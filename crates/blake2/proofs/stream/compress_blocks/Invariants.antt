use Rattle.std.proofs.Common.{◌≡◌, ◌<◌, ◌+◌, ◌*◌, ◌++◌, [], ◌∷◌, false, ℕ, List, length, take}
use Rattle.std.specs.List.{concat}
use Rattle.words.specs.Blake2.{compress}
use Rattle.words.specs.Words.{words}
use Rattle.blake2.specs.Blake2.{word_len}
use Rattle.blake2.specs.inside.Held.{IsChained}
use Rattle.blake2.proofs.stream.compress_blocks.Given as goal

abbrev pub invariant-blocks-2 : goal.invariant-blocks-2
invariant-blocks-2 g l = record {
  at : l.count ≡ l.compressed + l.step * l.block-index;
  none : l.block-index ≡ 0 → g.C.Chain.value l.chain ≡ g.C.Chain.value l.fn.chain;
  single : (b : List ℕ) → l.blocks ≡ b ∷ [] → 0 < l.block-index → (length b ≡ g.row.N)
      × (g.C.Chain.value l.chain ≡ compress g.C.Chain.variant (g.C.Chain.value l.fn.chain)
      (words (word_len g.C.Chain.variant) 16 b) (l.compressed + l.step) l.last);
  chained : (s p : List ℕ) (n : ℕ) → l.last ≡ false → l.step ≡ g.row.N → l.compressed ≡ g.row.N * n
      → IsChained g.C.Chain.variant s p (g.C.Chain.value l.fn.chain) n
      → IsChained g.C.Chain.variant s (p ++ concat (take l.block-index l.blocks)) (g.C.Chain.value l.chain)
      (n + l.block-index);
}
