use Rattle.std.proofs.Common.{inl, inr, refl}
use Rattle.request.specs.CommandLine.{kind_of}
use Rattle.command.proofs.Telling.{Writes-tells}
use Rattle.program.proofs.Whole.{clap_printed, clap_told}
use Rattle.program.proofs.print_clap.Goals as goal

pub returns-then-use_stderr : goal.returns-then-use_stderr
returns-then-use_stderr g c =
    clap_told (kind_of c.args.error.now) c.args.text.now 2 _ _ _ _ (c.use_stderr.ensures.0 c.if-use_stderr.true) refl
    refl (Writes-tells _ _ _ _ (rw c.as_bytes.ensures.value at c.write_all.ensures))

pub returns-in-Ok : goal.returns-in-Ok
returns-in-Ok g c =
    clap_printed (kind_of c.args.error.now) c.args.text.now 0 _ _ _ _
    (λ wrong. let yes = c.use_stderr.ensures.1 wrong in let no = c.if-use_stderr.false in cc)
    (inl (refl, rw c.as_bytes-2.ensures.value at c.in-Ok.ensures, refl))

pub returns-in-Err : goal.returns-in-Err
returns-in-Err g c =
    clap_printed (kind_of c.args.error.now) c.args.text.now _ _ _ _ _
    (λ wrong. let yes = c.use_stderr.ensures.1 wrong in let no = c.if-use_stderr.false in cc)
    (inr (c.tell.ensures.status, rw c.as_bytes-2.ensures.value at c.in-Err.ensures, c.tell.ensures.told))
