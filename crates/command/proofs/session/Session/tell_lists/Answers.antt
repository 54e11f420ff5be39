use Rattle.std.proofs.Common.{map, refl, sym, ◌∙◌}
use Rattle.command.specs.inside.Rules.{meaning}
use Rattle.command.specs.inside.Streams.{seen_at}
use Rattle.command.proofs.ToldLists.{report_none, report_opened, report_read}
use Rattle.command.proofs.session.Session.tell_lists.Goals as goal

pub returns-in_err-feed-clause-run : goal.returns-in_err-feed-clause-run
returns-in_err-feed-clause-run g c =
    report_none c.args.reporting (meaning c.args.entries.now) c.args.report.now (map (λ n. n.now) c.args.lists.now) _
    _ _ _ _ c.in_err-feed.field-0.0 _ _ _ _ c.from_residual.ensures.1 c.in_err-feed.ensures.opened
    c.in_err-feed.ensures.counted refl

pub returns-clause-run : goal.returns-clause-run
returns-clause-run g c =
    let at = seen_at g.L.Feed.remaining g.L.Feed.failure_count g.T.Tree.files g.T.Tree.failure_count
    g.T.Tree.opens g.W.Sink.shown in
    let before = at c.args.self.now.input.now c.open_file.new.tree c.args.self.now.out.now in
    let new = at c.walk-answer.new.items.input.now c.walk-answer.new.items.tree.now
    c.walk-answer.new.items.out.now in
    report_read c.args.reporting (meaning c.args.entries.now) c.args.report.now (map (λ n. n.now) c.args.lists.now) _
    _ _ g.T.F.Feed.remaining c.in_ok-feed.feed _ _ before new c.whole.result
    _ _ _ _ c.whole.ensures.others c.whole.ensures.waiting c.in_ok-feed.ensures.opened c.open_file.ensures.kept
    c.in_ok-feed.ensures.counted
    c.new.ensures.left (c.new.ensures.counted
    ∙ c.in_ok-feed.ensures.fresh) (rw (c.new-2.ensures.left, c.new-2.ensures.names) at c.walk-answer.ensures.run)
    (rw (c.feed-3-1.given.1 (sym (c.walk-answer.ensures.same.8 ∙ c.new.ensures.same))) at c.close.ensures.counted)

pub returns-clause-opens : goal.returns-clause-opens
returns-clause-opens g c = report_opened (map (λ n. n.now) c.args.lists.now) c.whole.result _ _ _ _
    c.whole.ensures.others c.whole.ensures.waiting (rw c.new-2.ensures.left at c.walk-answer.ensures.kept)
    c.open_file.ensures.opens c.close.ensures.opened
