use Rattle.std.proofs.Common.{map}
use Rattle.command.specs.inside.Rules.{meaning}
use Rattle.command.specs.inside.Streams.{seen_at}
use Rattle.command.proofs.Reporting.{lists_opened, lists_walked}
use Rattle.command.proofs.session.Session.print_by.Goals as goal

pub returns-in-Files-clause-run : goal.returns-in-Files-clause-run
returns-in-Files-clause-run g c =
    let at = seen_at g.L.Feed.remaining g.L.Feed.failure_count g.T.Tree.files g.T.Tree.failure_count
    g.T.Tree.opens g.W.Sink.shown in
    let new = at c.walk.new.items.input.now c.walk.new.items.tree.now c.walk.new.items.out.now in
    rw c.in-Files.is (lists_walked c.args.reporting (meaning c.args.entries.now) c.in-Files.share c.whole.result
    (map (λ n. n.now) c.args.lists.now) _ (at c.args.self.now.input.now c.args.self.now.tree.now
    c.args.self.now.out.now) new _ _ c.whole.ensures.others c.whole.ensures.waiting
    (rw (c.new.ensures.left, c.new.ensures.names) at c.walk.ensures.run))

pub returns-in-Files-clause-opens : goal.returns-in-Files-clause-opens
returns-in-Files-clause-opens g c = rw c.in-Files.is (lists_opened (map (λ n. n.now) c.args.lists.now) c.whole.result
    _ _ _ _ _ _ c.whole.ensures.others c.whole.ensures.waiting (rw c.new.ensures.left at c.walk.ensures.kept))

pub returns-in-Report-clause-run : goal.returns-in-Report-clause-run
returns-in-Report-clause-run g c = rw c.in-Report.is c.tell_lists.ensures.run
