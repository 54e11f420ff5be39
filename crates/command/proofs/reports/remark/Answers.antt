use Rattle.std.proofs.Common.{option_map, refl}
use Rattle.command.specs.Run.{TellsAll}
use Rattle.command.specs.inside.Faults.{noted}
use Rattle.command.proofs.Telling.{TellsAll-append, TellsAll-one, Writes-tells}
use Rattle.command.proofs.reports.remark.Goals as goal
use Rattle.command.proofs.reports.remark.Goals.{else-reporting, then-reporting}

pub returns-in-Some : goal.returns-in-Some
returns-in-Some g c =
    let told : TellsAll (g.E.Sink.shown c.args.err.now) (g.E.Sink.shown c.if-reporting.err)
    (noted c.args.reporting (option_map (λ n. n.now) c.args.list) c.args.summary.now) = elim c.if-reporting.branch [
      | then-reporting w ↦
          rw (w.if-reporting.true, w.err-is) (TellsAll-one _ _ _ (Writes-tells _ _ _ _ w.write_note.ensures))
      | else-reporting w ↦ rw (w.if-reporting.false, w.err-is) refl
    ] in
    rw c.in-Some.ensures (TellsAll-append _ _ _ _ _ told
    (TellsAll-one _ _ _ (Writes-tells _ _ _ _ c.write_message.ensures)))
