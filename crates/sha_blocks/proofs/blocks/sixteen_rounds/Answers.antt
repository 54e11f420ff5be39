use Rattle.std.proofs.Common.{ap, arith, ◌∙◌}
use Rattle.sha2.specs.Sha256.{rounds, schedule}
use Rattle.sha_blocks.proofs.blocks.sixteen_rounds.Goals as goal

pub returns : goal.returns
returns c h b before keyed =
    let v1 = c.four_rounds.ensures h b before keyed in
    let v2 = c.four_rounds-2.ensures h b v1 keyed ∙ ap (rounds h (schedule b 48)) (omega arith) in
    let v3 = c.four_rounds-3.ensures h b v2 keyed ∙ ap (rounds h (schedule b 48)) (omega arith) in
    c.four_rounds-4.ensures h b v3 keyed ∙ ap (rounds h (schedule b 48)) (omega arith)
