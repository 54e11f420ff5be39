use Rattle.std.proofs.Common.{◌≡◌, arith, length, length-append}
use Rattle.mac.proofs.sha512_stream.Sha512StreamAbsorb.update.Goals as goal

pub returns-clause-appended : goal.returns-clause-appended
returns-clause-appended c = λ m held.
    let taken : c.taken-taken.result ≡ length m = omega (arith, held.room, c.taken-taken.ensures) in
    record {
      taken = c.update.ensures m taken held.taken;
      room = omega (arith, held.room, length-append m c.args.piece.now);
    }
