use Rattle.std.proofs.Common.{nat_lt}
use Rattle.command.specs.inside.Rules.{line_by}
use Rattle.command.specs.inside.Streams.{seen_at}
use Rattle.command.proofs.Given.{given_printed}
use Rattle.command.proofs.lines.GivenItems.print.Goals as goal

pub returns-clause-printed : goal.returns-clause-printed
returns-clause-printed g c =
    let at = seen_at g.L.Feed.remaining g.L.Feed.failure_count g.T.Tree.files g.T.Tree.failure_count
    g.T.Tree.opens g.W.Sink.shown in
    let old = at c.args.self.now.input.now c.args.self.now.tree.now c.args.self.now.out.now in
    given_printed (line_by c.args.self.now.rule.now)
    c.args.self.now.names.name.now (nat_lt 0 c.args.share.others) _ old
    (at c.print_one.new.self.input.now c.print_one.new.self.tree.now c.print_one.new.self.out.now) _ _
    c.print_one.ensures.files c.print_one.ensures.name
