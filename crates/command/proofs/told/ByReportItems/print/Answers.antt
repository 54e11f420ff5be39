use Rattle.std.proofs.Common.{Err, Ok, Result, map, nat_lt, refl}
use Rattle.std.proofs.lemmas.Result.{err_from_is_err_and}
use Rattle.sumlist.specs.declared.summary.Summary.{Summary}
use Rattle.sumlist.specs.inside.Telling.{left}
use Rattle.command.specs.Lines.{is_input}
use Rattle.command.specs.inside.Rules.{meaning}
use Rattle.command.specs.inside.Streams.{seen_at}
use Rattle.command.specs.declared.fault.Fault.{Fault}
use Rattle.command.proofs.Listing.{graded-leaves}
use Rattle.command.proofs.ToldLists.{list_told}
use Rattle.command.proofs.told.ByReportItems.print.Goals as goal

pub returns-in_err-summary-clause-printed : goal.returns-in_err-summary-clause-printed
returns-in_err-summary-clause-printed g c =
    let at = seen_at g.L.Feed.remaining g.L.Feed.failure_count g.T.Tree.files g.T.Tree.failure_count
    g.T.Tree.opens g.W.Sink.shown in
    let its = c.args.self.now in
    let after = c.tell_named.new.told in
    let old = (at its.input.now its.tree.now its.out.now) in
    let new = (at c.tell_named.new.self.input.now c.tell_named.new.self.tree.now c.tell_named.new.self.out.now) in
    let r : Result Summary Fault = Err c.in_err-summary.field-0.0 in
    let e = err_from_is_err_and c.from_residual.result c.from_residual.ensures.1 in
    rw (e.1, e.2) (list_told its.reporting (meaning its.told.entries.now) (map (λ n. n.now) its.lists.names.now)
    its.told.name.now its.lists.name.now _ c.title-title.ensures (left g.F.Feed.remaining its.told.report)
    (left g.F.Feed.remaining after.report) its.told.next after.next (nat_lt 0 c.args._share.others) _ old new _ _
    (g.F.Feed.failure_count its.told.report.feed.now) (g.F.Feed.failure_count after.report.feed.now)
    (c.in_err-summary.ensures.list its.reporting (g.E.Sink.shown c.args.err.now) _ refl)
    (graded-leaves (is_input its.lists.name.now) r _ _ c.in_err-summary.ensures.gave) c.tell_named.ensures.kept.files
    c.tell_named.ensures.kept.out)

pub returns-clause-printed : goal.returns-clause-printed
returns-clause-printed g c =
    let at = seen_at g.L.Feed.remaining g.L.Feed.failure_count g.T.Tree.files g.T.Tree.failure_count
    g.T.Tree.opens g.W.Sink.shown in
    let its = c.args.self.now in
    let after = c.tell_named.new.told in
    let old = (at its.input.now its.tree.now its.out.now) in
    let new = (at c.tell_named.new.self.input.now c.tell_named.new.self.tree.now c.tell_named.new.self.out.now) in
    let r : Result Summary Fault = Ok c.in_ok-summary.summary in
    rw (c.status_of.ensures, c.tell_named.ensures.kept.name)
    (list_told its.reporting (meaning its.told.entries.now) (map (λ n. n.now) its.lists.names.now)
    its.told.name.now its.lists.name.now _ c.title-title.ensures (left g.F.Feed.remaining its.told.report)
    (left g.F.Feed.remaining after.report) its.told.next after.next (nat_lt 0 c.args._share.others) _ old new _ _
    (g.F.Feed.failure_count its.told.report.feed.now) (g.F.Feed.failure_count after.report.feed.now)
    (c.in_ok-summary.ensures.list its.reporting (g.E.Sink.shown c.args.err.now) _ c.remark.ensures)
    (graded-leaves (is_input its.lists.name.now) r _ _ c.in_ok-summary.ensures.gave) c.tell_named.ensures.kept.files
    c.tell_named.ensures.kept.out)
