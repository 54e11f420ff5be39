use Rattle.std.proofs.lemmas.Grind.{common_steps}
use Rattle.std.proofs.Common.{arith, ap, nat_lt, refl}
use Rattle.command.specs.inside.Hashed.{listed_items}
use Rattle.command.specs.inside.Rules.{line_by}
use Rattle.command.specs.inside.Streams.{seen_at}
use Rattle.command.proofs.Naming.{listed_bad, listed_printed, onward_none}
use Rattle.command.proofs.listed.ListedItems.print.Goals as goal

pub returns-in_default-clause-printed : goal.returns-in_default-clause-printed
returns-in_default-clause-printed g c =
    let at = seen_at g.L.Feed.remaining g.L.Feed.failure_count g.T.Tree.files g.T.Tree.failure_count
    g.T.Tree.opens g.W.Sink.shown in
    let old = at c.args.self.now.input.now c.args.self.now.tree.now c.args.self.now.out.now in
    listed_bad (nat_lt 0 c.args.share.others) (line_by c.args.self.now.rule.now) c.args.self.now.list
    c.args.self.now.number c.args.self.now.names.now old (record old { out = g.W.Sink.shown c.pass_over.new.out }) _ _ _
    c.in_default.ensures.file refl c.pass_over.ensures.passes

pub returns-clause-printed : goal.returns-clause-printed
returns-clause-printed g c =
    let at = seen_at g.L.Feed.remaining g.L.Feed.failure_count g.T.Tree.files g.T.Tree.failure_count
    g.T.Tree.opens g.W.Sink.shown in
    let old = at c.args.self.now.input.now c.args.self.now.tree.now c.args.self.now.out.now in
    let gave = c.print_one.ensures.gave c.in-Some.ensures.other in
    listed_printed (nat_lt 0 c.args.share.others)
    (line_by c.args.self.now.rule.now) c.args.self.now.list c.args.self.now.number c.args.self.now.names.now old
    (at c.print_one.new.self.input.now c.print_one.new.self.tree.now c.print_one.new.self.out.now) _ _ _
    c.in-Some.name.now c.in-Some.ensures.file c.print_one.ensures.files gave
    c.print_one.ensures.name

pub returns-clause-items : goal.returns-clause-items
returns-clause-items g c = ap (listed_items c.args.self.now.number c.args.self.now.names.now)
    (c.print_one.ensures.gave c.in-Some.ensures.other)

pub returns-clause-same : goal.returns-clause-same
returns-clause-same g c = grind (arith, common_steps, onward_none)
