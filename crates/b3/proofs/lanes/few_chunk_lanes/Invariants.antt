use Rattle.words.specs.inside.Lanes.{lane8}
use Rattle.b3.proofs.Lanes8.{AreAtBlock}
use Rattle.b3.proofs.lanes.few_chunk_lanes.Given as goal

abbrev pub invariant-each_block : goal.invariant-each_block
invariant-each_block l =
    AreAtBlock l.parameters.key l.parameters.flags l.first l.bytes 4 (λ k. lane8 k l.values) (λ k. lane8 k l.before) l.j
