use Rattle.std.proofs.Common.{◌≡◌, ◌∙◌, arith, length, length-append}
use Rattle.mac.proofs.sha256_stream.Sha256StreamAbsorb.update.Goals as goal

pub returns-clause-appended : goal.returns-clause-appended
returns-clause-appended c = λ m held.
    let taken : c.taken.result ≡ length m = omega (arith, held.room, c.taken.ensures) in
    record {
      taken = c.update.ensures m (c.from-taken.ensures ∙ taken) held.taken;
      room = omega (arith, held.room, length-append m c.args.piece.now);
    }
