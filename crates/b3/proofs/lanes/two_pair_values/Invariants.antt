use Rattle.words.specs.inside.Halves.{half8, of_pairs}
use Rattle.b3.proofs.Lanes8.{AreAtBlock}
use Rattle.b3.proofs.lanes.two_pair_values.Given as goal

abbrev pub invariant-each_block : goal.invariant-each_block
invariant-each_block l =
    AreAtBlock l.parameters.key l.parameters.flags l.first l.bytes 4 (of_pairs half8 l.next) (of_pairs half8 l.last)
    l.j
