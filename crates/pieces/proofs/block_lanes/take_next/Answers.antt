use Rattle.std.proofs.Common.{◌*◌, ◌+◌, ◌≤◌, arith, slice_index}
use Rattle.std.proofs.Math.Nat.{mul-le-mul_left}
use Rattle.pieces.proofs.block_lanes.take_next.Goals as goal

pub take_blocks-requires : goal.take_blocks-requires
take_blocks-requires g c =
    let few = g.met.H.HashValues.few_lanes in (
      omega (arith, few),
      (
        c.requires.counted,
        λ i lt.
            let inside : g.row.N * (c.args.block + 1) ≤ g.row.N * slice_index c.args.counts.now i =
            mul-le-mul_left g.row.N (omega (arith, c.requires.least i lt)) in
            omega (arith, c.requires.fits i lt),
      ),
    )
