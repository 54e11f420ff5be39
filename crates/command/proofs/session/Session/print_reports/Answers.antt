use Rattle.std.proofs.Common.{false, map, refl}
use Rattle.sumlist.specs.Report.{keyed}
use Rattle.task.specs.Tasks.{tags}
use Rattle.task.specs.inside.Possible.{mac_len}
use Rattle.task.specs.inside.Views.{key_shown, verdicts_shown}
use Rattle.command.specs.Checking.{ListsRun}
use Rattle.command.specs.Run.{TellsAll}
use Rattle.command.specs.inside.Rules.{keyed_line}
use Rattle.command.proofs.Tagging.{sum_had, sum_refused}
use Rattle.command.proofs.session.Session.print_reports.Goals as goal

pub returns-in_err-keyed-in-Tags-clause-run : goal.returns-in_err-keyed-in-Tags-clause-run
returns-in_err-keyed-in-Tags-clause-run g c =
    let short = c.in-Tags.short in
    rw c.in-Tags.is (sum_refused (tags short.mac false (key_shown c.in-Tags.key)) (λ l bytes files.
    ListsRun (keyed (mac_len short.mac) l.limit l.bytes) c.args.reporting (verdicts_shown c.args.verdicts) files
    (map (λ n. n.now) c.args.lists.now) bytes)
    (TellsAll (g.E.Sink.shown c.args.err.now) (g.E.Sink.shown c.args.err.now)) _ _
    c.in_err-keyed-in-Tags.field-0.0 _ _ _ _ _ _ _ c.from_residual.ensures.1 refl refl refl
    c.in_err-keyed-in-Tags.ensures.keyed c.in_err-keyed-in-Tags.ensures.counted)

pub returns-in_ok-keyed-in-Tags-clause-run : goal.returns-in_ok-keyed-in-Tags-clause-run
returns-in_ok-keyed-in-Tags-clause-run g c =
    let short = c.in-Tags.short in
    rw c.in-Tags.is (sum_had (tags short.mac false (key_shown c.in-Tags.key)) (λ l bytes files.
    ListsRun (keyed (mac_len short.mac) l.limit l.bytes) c.args.reporting (verdicts_shown c.args.verdicts) files
    (map (λ n. n.now) c.args.lists.now) bytes)
    (TellsAll (g.E.Sink.shown c.args.err.now) (g.E.Sink.shown c.print_by-in-Tags.new.err)) _ _ _ _
    (keyed_line c.in_ok-keyed-in-Tags.keyed.keyed) _ _ _ _ _ _ _ _ _ _ refl c.short_keyed.ensures.files refl refl
    c.in_ok-keyed-in-Tags.ensures.keyed c.in_ok-keyed-in-Tags.ensures.counted
    (rw c.tag_len.ensures at c.print_by-in-Tags.ensures.run))
