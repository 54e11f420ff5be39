use Rattle.std.proofs.Common.{map}
use Rattle.command.specs.inside.Rules.{meaning}
use Rattle.command.specs.inside.Streams.{seen_at}
use Rattle.command.proofs.Reporting.{list_kept, list_printed}
use Rattle.command.proofs.reports.CheckedItems.print.Goals as goal

pub returns-clause-printed : goal.returns-clause-printed
returns-clause-printed g c =
    let at = seen_at g.L.Feed.remaining g.L.Feed.failure_count g.T.Tree.files g.T.Tree.failure_count
    g.T.Tree.opens g.W.Sink.shown in
    let old = at c.args.self.now.input.now c.args.self.now.tree.now c.args.self.now.out.now in
    list_printed c.args.self.now.reporting
    (meaning c.args.self.now.entries.now) _ c.args.self.now.lists.name.now c.args.self.now.share
    c.print_report.new.share _ old (at c.print_report.new.self.input.now c.print_report.new.self.tree.now
    c.print_report.new.self.out.now) _ _ c.print_report.ensures.files
    c.print_report.ensures.report (map (λ n. n.now) c.args.self.now.lists.names.now) _ c.requires
    c.title-title.ensures

pub returns-clause-kept : goal.returns-clause-kept
returns-clause-kept g c =
    let at = seen_at g.L.Feed.remaining g.L.Feed.failure_count g.T.Tree.files g.T.Tree.failure_count
    g.T.Tree.opens g.W.Sink.shown in
    let old = at c.args.self.now.input.now c.args.self.now.tree.now c.args.self.now.out.now in λ i is. rw is
    (list_kept c.args.self.now.reporting
    (meaning c.args.self.now.entries.now) _ c.args.self.now.lists.name.now c.args.self.now.share
    c.print_report.new.share _ old (at c.print_report.new.self.input.now c.print_report.new.self.tree.now
    c.print_report.new.self.out.now) _ _ c.print_report.ensures.files
    c.print_report.ensures.report c.print_report.ensures.opens)
