use Rattle.std.proofs.Common.{◌≡◌, false, List, Result, Err, inl, inr, refl}
use Rattle.std.specs.Prelude.{◌≢◌}
use Rattle.request.specs.CommandLine.{Text, given_of, kind_of}
use Rattle.request.specs.inside.Reading.{IsRead}
use Rattle.request.specs.declared.request.Request.{Request}
use Rattle.request.specs.declared.request.WordsFault.{WordsFault}
use Rattle.request.specs.declared.request.WordsFault.TheVariants.{OutOfMemory, Words}
use Rattle.sums.specs.Asking.{IsAsked}
use Rattle.sums.proofs.asks_for_progress.Goals as goal

refused : (words : List Text) (fault : WordsFault) (read : Result Request WordsFault) → read ≡ Err fault
    → IsRead words read → (read ≢ Err OutOfMemory) → IsAsked false words
refused words OutOfMemory read is h other = absurd (other is)
refused words (Words e) read is h other = inr (kind_of e, rw is at h, refl)

pub returns-in-Ok : goal.returns-in-Ok
returns-in-Ok c words h other =
    let given = rw c.in-Ok.is at h in
    inl (given_of c.in-Ok.request, given, c.has.ensures)

pub returns-in-Err : goal.returns-in-Err
returns-in-Err c words h other = refused words _ _ c.in-Err.is h other
