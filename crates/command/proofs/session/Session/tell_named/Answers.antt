use Rattle.std.proofs.Common.{refl, sym, true}
use Rattle.std.specs.Prelude.{option_map}
use Rattle.command.specs.inside.Rules.{meaning}
use Rattle.command.specs.inside.Streams.{seen_of}
use Rattle.command.proofs.Listing.{graded-stops, stops-quiet}
use Rattle.command.proofs.ToldLists.{named_file, named_input, named_none}
use Rattle.command.proofs.session.Session.tell_named.Goals as goal

pub returns-then-eq-clause-list : goal.returns-then-eq-clause-list
returns-then-eq-clause-list g c reporting before after told =
    let see = seen_of g.L.Feed.remaining g.L.Feed.failure_count g.T.Tree.files g.T.Tree.failure_count
    g.T.Tree.opens g.W.Sink.shown in
    named_input reporting _ _ _ _ _ _ _ _ _ (see c.args.self.now) (record (see c.args.self.now) { input_failures = _ })
    before after _ _
    (sym c.if-eq.ensures) (c.tell_feed.ensures.list reporting before after told) refl

pub returns-in_err-feed-clause-list : goal.returns-in_err-feed-clause-list
returns-in_err-feed-clause-list g c reporting before after told =
    let see = seen_of g.L.Feed.remaining g.L.Feed.failure_count g.T.Tree.files g.T.Tree.failure_count
    g.T.Tree.opens g.W.Sink.shown in
    named_none reporting _ _ _ _ _ _ _ _ _ (see c.args.self.now) (record (see c.args.self.now) { file_failures = _ })
    before after _ _ c.in_err-feed.field-0.0
    (sym c.if-eq.ensures) (graded-stops _ _ c.from_residual.ensures.1) c.in_err-feed.ensures.opened
    c.in_err-feed.ensures.counted (stops-quiet true reporting (option_map (λ n. n.now) c.args.title) c.args.name.now
    (meaning c.args.told.now.entries.now) _ _ before after c.from_residual.ensures.1 told) refl refl

pub returns-clause-list : goal.returns-clause-list
returns-clause-list g c reporting before after told =
    let see = seen_of g.L.Feed.remaining g.L.Feed.failure_count g.T.Tree.files g.T.Tree.failure_count
    g.T.Tree.opens g.W.Sink.shown in
    named_file reporting _ _ _ _ _ _ _ _ _ (see c.args.self.now) (record (see c.args.self.now) { file_failures = _ })
    before after _ _ g.T.F.Feed.remaining
    c.in_ok-feed.feed _ _ _ (sym c.if-eq.ensures) c.in_ok-feed.ensures.opened c.in_ok-feed.ensures.counted
    (c.tell_feed-answer.ensures.list reporting before after told) c.in_ok-feed.ensures.fresh
    c.close.ensures.counted refl
