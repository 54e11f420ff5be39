use Rattle.std.proofs.lemmas.Grind.{common_steps}
use Rattle.std.proofs.Common.{arith, refl, sym, ◌∙◌}
use Rattle.sumlist.specs.Lines.{lines}
use Rattle.std.specs.Prelude.{◌==◌, option_map}
use Rattle.command.specs.Checking.{ListRuns}
use Rattle.command.specs.inside.Rules.{meaning}
use Rattle.command.proofs.Listing.{graded-stops, refused_list, report_file, report_input, report_refused, stops-quiet}
use Rattle.command.proofs.Opening.{opens_of_file, opens_of_input, opens_of_none}
use Rattle.command.proofs.session.Session.check_named.Goals as goal

pub returns-then-eq-clause-run : goal.returns-then-eq-clause-run
returns-then-eq-clause-run g c reporting before after told = grind (arith, common_steps, report_input)

pub returns-in_err-feed-clause-run : goal.returns-in_err-feed-clause-run
returns-in_err-feed-clause-run g c reporting before after told =
    let name = c.args.name.now in
    let is = sym c.eq.ensures ∙ c.if-eq.false in
    report_refused name (λ files content run.
    ListRuns reporting files (meaning c.args.entries.now)
    (option_map (λ n. n.now) c.args.title) name c.args.share.now content run c.args.share.now)
    before after g.T.F.Feed.remaining _ _ _ _ _ _ _ _ is
    (λ files content t may other.
    refused_list reporting files (meaning c.args.entries.now)
    (option_map (λ n. n.now) c.args.title) name c.args.share.now content t may other is)
    (graded-stops _ _ c.from_residual.ensures.1) c.in_err-feed.ensures.opened c.in_err-feed.ensures.counted
    (stops-quiet (c.args.share.now.others == 0) reporting (option_map (λ n. n.now) c.args.title) name
    (meaning c.args.entries.now) _ _ before after c.from_residual.ensures.1 told)

pub returns-clause-run : goal.returns-clause-run
returns-clause-run g c reporting before after told =
    let name = c.args.name.now in
    report_file name (λ files content run.
    ListRuns reporting files (meaning c.args.entries.now)
    (option_map (λ n. n.now) c.args.title) name c.args.share.now content run c.check_input-answer.new.share)
    _ _ g.T.F.Feed.remaining c.in_ok-feed.feed _ _ _ _ _ _ _ _ _ _ _ _ _
    (sym c.eq.ensures ∙ c.if-eq.false) c.in_ok-feed.ensures.opened c.open_file.ensures.kept
    c.in_ok-feed.ensures.counted (c.check_input-answer.ensures.list reporting before after told)
    c.in_ok-feed.ensures.fresh
    (rw (c.feed-3-1.given.1 (sym c.check_input-answer.ensures.same.input)) at c.close.ensures.counted)

pub returns-then-eq-clause-opens : goal.returns-then-eq-clause-opens
returns-then-eq-clause-opens g c =
    opens_of_input lines c.args.name.now _ _ _ _ (sym c.eq.ensures ∙ c.if-eq.true) c.check_input.ensures.opens

pub returns-in_err-feed-clause-opens : goal.returns-in_err-feed-clause-opens
returns-in_err-feed-clause-opens g c =
    opens_of_none lines c.args.name.now _ _ _ _ (sym c.eq.ensures ∙ c.if-eq.false) c.open_file.ensures.opens

pub returns-clause-opens : goal.returns-clause-opens
returns-clause-opens g c = grind (arith, common_steps, opens_of_file)

pub returns-then-eq-clause-gave : goal.returns-then-eq-clause-gave
returns-then-eq-clause-gave g c = rw (sym c.eq.ensures ∙ c.if-eq.true) c.check_input.ensures.gave

pub returns-in_err-feed-clause-gave : goal.returns-in_err-feed-clause-gave
returns-in_err-feed-clause-gave g c = rw (sym c.eq.ensures ∙ c.if-eq.false) refl

pub returns-clause-gave : goal.returns-clause-gave
returns-clause-gave g c = rw (sym c.eq.ensures ∙ c.if-eq.false) refl
