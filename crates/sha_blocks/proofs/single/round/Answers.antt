use Rattle.std.proofs.Common.{◌^◌}
use Rattle.sha_blocks.proofs.Sums.{round_keyed}
use Rattle.sha_blocks.proofs.single.round.Goals as goal

pub returns : goal.returns
returns c k w keyed =
    rw (c.choice.ensures, c.big_sigma1-sigma.ensures, c.big_sigma0.ensures, c.majority.ensures)
    (round_keyed (2 ^ 32) c.args.v k w _ _ _ _ _ keyed)
