use Rattle.std.proofs.Common.{◌∙◌, arith}
use Rattle.b3.proofs.Runs.{lefts_above}
use Rattle.b3.proofs.lanes.open_lefts.Goals as goal

pub returns-clause-lefts : goal.returns-clause-lefts
returns-clause-lefts c =
    lefts_above c.args.parameters.now.key c.args.parameters.now.flags c.args.first c.args.bytes.now c.args.level _ _ _ _
    c.requires.length
    (omega arith)
    (λ i h. c.lane_rows-values.ensures i h
    ∙ c.open_lanes.ensures.values i h) c.open_lanes.ensures.lefts c.parents-over.ensures c.join.ensures
