use Rattle.std.proofs.Common.{◌≡◌, ◌-◌, ◌%◌, refl, arith}
use Rattle.std.specs.Int.{w32}
use Rattle.words.proofs.LaneLemmas.{shifts_rotate}
use Rattle.words.proofs.lanes.rotated.Goals as goal

pub returns : goal.returns
returns c =
    let right : c.args.r % 32 ≡ c.args.r = omega arith in
    let left : (32 - c.args.r) % 32 ≡ 32 - c.args.r = omega arith in
    shifts_rotate w32 32 c.args.r 8 (λ z. rw (right, left) refl) c.args.x c.fits-x.0 c.args.y c.fits-y.0
