use Rattle.std.proofs.Common.{map, refl}
use Rattle.command.specs.Hashing.{LinesGiven}
use Rattle.command.specs.Run.{TellsAll}
use Rattle.command.specs.inside.Rules.{line_by}
use Rattle.command.specs.inside.Streams.{seen_at}
use Rattle.command.proofs.Given.{given_walked}
use Rattle.command.proofs.Tagging.{sum_had, sum_refused}
use Rattle.command.proofs.session.Session.print_lines.Goals as goal
use Rattle.task.specs.inside.Views.{sum_shown}

pub returns-in_err-rule-clause-run : goal.returns-in_err-rule-clause-run
returns-in_err-rule-clause-run g c =
    sum_refused (sum_shown c.args.sum)
    (λ l bytes files. LinesGiven c.args.share l files (map (λ n. n.now) c.args.names.now) bytes)
    (TellsAll (g.E.Sink.shown c.args.err.now) (g.E.Sink.shown c.args.err.now)) _ _ c.in_err-rule.field-0.0 _ _ _ _ _ _ _
    c.from_residual.ensures.1 refl refl refl c.in_err-rule.ensures.rule c.in_err-rule.ensures.counted

pub returns-clause-run : goal.returns-clause-run
returns-clause-run g c =
    let names = map (λ n. n.now) c.args.names.now in
    let at = seen_at g.L.Feed.remaining g.L.Feed.failure_count g.T.Tree.files g.T.Tree.failure_count
    g.T.Tree.opens g.W.Sink.shown in
    let old = at c.args.self.now.input.now c.rule_of.new.tree c.args.self.now.out.now in
    let new = at c.walk.new.items.input.now c.walk.new.items.tree.now c.walk.new.items.out.now in
    sum_had (sum_shown c.args.sum)
    (λ l bytes files. LinesGiven c.args.share l files names bytes)
    (TellsAll (g.E.Sink.shown c.args.err.now) (g.E.Sink.shown c.walk.new.err)) _ _ _ _
    (line_by c.in_ok-rule.rule) _ _ _ _ _ _ _ _ _ _
    refl c.rule_of.ensures.files refl refl c.in_ok-rule.ensures.rule c.in_ok-rule.ensures.counted
    (given_walked (line_by c.in_ok-rule.rule) c.args.share names _ old new _ _
    (rw c.new.ensures.left at c.walk.ensures.run))
