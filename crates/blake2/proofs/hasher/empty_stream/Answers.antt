use Rattle.std.proofs.Common.{rules, ◌∙◌, length-take-le, arith}
use Rattle.blake2.specs.Blake2.{start}
use Rattle.blake2.proofs.Starting.{four_fit, half_block, parameters_first, two_words_fit}
use Rattle.blake2.proofs.hasher.empty_stream.Goals as goal

pub padded_block-block-requires : goal.padded_block-block-requires
padded_block-block-requires g c =
    (search rules, four_fit g.C.Chain.variant g.row.N g.met.C.Chain.block g.met.C.Chain.positive)

pub start-requires : goal.start-requires
start-requires g c =
    length-take-le _ _ (omega arith) ∙ half_block g.C.Chain.variant g.row.N g.met.C.Chain.block

pub write_at-requires : goal.write_at-requires
write_at-requires g c =
    (search rules, (two_words_fit g.C.Chain.variant g.row.N _ g.met.C.Chain.block c.requires.salt).0)

pub write_at-requires-2 : goal.write_at-requires-2
write_at-requires-2 g c =
    (search rules, (two_words_fit g.C.Chain.variant g.row.N _ g.met.C.Chain.block c.requires.personal).1)

pub returns-clause-held : goal.returns-clause-held
unfolding start
returns-clause-held g c =
    let k = g.C.Chain.variant in
    let block = parameters_first k g.row.N c.args.digest_length c.args.key.now c.args.salt.now c.args.personal.now _ _ _
    g.met.C.Chain.block g.met.C.Chain.positive c.requires.salt c.requires.personal
    c.padded_block-block.ensures c.write_at.ensures.front c.write_at-2.ensures.front in
    rw (← block, ← c.start.ensures) c.new.ensures.held
