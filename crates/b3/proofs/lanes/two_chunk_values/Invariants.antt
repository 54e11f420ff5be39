use Rattle.words.specs.inside.Halves.{half8}
use Rattle.b3.proofs.Lanes8.{AreAtBlock}
use Rattle.b3.proofs.lanes.two_chunk_values.Given as goal

abbrev pub invariant-each_block : goal.invariant-each_block
invariant-each_block l =
    AreAtBlock l.parameters.key l.parameters.flags l.first l.bytes 2 (λ k. half8 k l.next) (λ k. half8 k l.last) l.j
