use Rattle.std.proofs.Common.{arith}
use Rattle.words.specs.Blake2.{blake2b}
use Rattle.words.proofs.FourWords.{round_by_rows}
use Rattle.words.proofs.rows.round64.Goals as goal

pub returns : goal.returns
returns c =
    round_by_rows blake2b c.args.v.now c.args.m.now c.args.s.now c.mix_columns64.result c.mix_columns64-2.result
    (omega arith)
    (rw (c.picked64-x.ensures, c.picked64-y.ensures) at c.mix_columns64.ensures)
    (rw (c.picked64-x-2.ensures, c.picked64-y-2.ensures) at c.mix_columns64-2.ensures)
