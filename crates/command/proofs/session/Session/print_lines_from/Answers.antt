use Rattle.std.proofs.lemmas.Grind.{common_steps}
use Rattle.std.proofs.Common.{arith, ◌+◌, List, refl, sym, ◌∙◌, ℕ}
use Rattle.sumlist.specs.Naming.{names}
use Rattle.sumlist.specs.Shared.{every}
use Rattle.command.specs.Hashing.{LinesListed}
use Rattle.command.specs.Lines.{content_of, opens_of}
use Rattle.command.specs.Run.{TellsAll}
use Rattle.command.specs.inside.Rules.{line_by}
use Rattle.command.specs.inside.Seen.{opens_from}
use Rattle.command.proofs.Listing.{report_file, report_input, report_refused}
use Rattle.command.proofs.Naming.{refused_names}
use Rattle.command.proofs.Opening.{opens_behind, opens_key, opens_of_file, opens_of_input, opens_of_none}
use Rattle.command.proofs.Tagging.{sum_had, sum_refused}
use Rattle.command.proofs.session.Session.print_lines_from.Goals as goal
use Rattle.task.specs.inside.Views.{sum_shown}

pub returns-in_err-rule-clause-run : goal.returns-in_err-rule-clause-run
returns-in_err-rule-clause-run g c =
    sum_refused (sum_shown c.args.sum)
    (λ l bytes files. LinesListed c.args.share l files c.args.list.now (content_of c.args.list.now bytes files))
    (TellsAll (g.E.Sink.shown c.args.err.now) (g.E.Sink.shown c.args.err.now)) _ _ c.in_err-rule.field-0.0 _ _ _ _ _ _ _
    c.from_residual.ensures.1 refl refl refl c.in_err-rule.ensures.rule c.in_err-rule.ensures.counted

pub returns-then-eq-clause-run : goal.returns-then-eq-clause-run
returns-then-eq-clause-run g c =
    sum_had (sum_shown c.args.sum)
    (λ l bytes files. LinesListed c.args.share l files c.args.list.now (content_of c.args.list.now bytes files))
    (TellsAll (g.E.Sink.shown c.args.err.now) (g.E.Sink.shown c.print_names.new.err)) _ _ _ _
    (line_by c.in_ok-rule.rule) _ _ _ _ _ _ _ _ _ _
    refl c.rule_of.ensures.files refl refl c.in_ok-rule.ensures.rule c.in_ok-rule.ensures.counted
    (report_input c.args.list.now (λ files content run.
    LinesListed c.args.share (line_by c.in_ok-rule.rule) files c.args.list.now content run) _ _ _ _ _ _ _ _ _ _ _
    (sym c.eq.ensures ∙ c.if-eq.true) c.print_names.ensures.run)

pub returns-in_err-feed-clause-run : goal.returns-in_err-feed-clause-run
returns-in_err-feed-clause-run g c =
    let l = line_by c.in_ok-rule.rule in
    let list = c.args.list.now in
    let err = g.E.Sink.shown c.args.err.now in
    let is = sym c.eq.ensures ∙ c.if-eq.false in
    sum_had (sum_shown c.args.sum)
    (λ l bytes files. LinesListed c.args.share l files list (content_of list bytes files))
    (TellsAll err err) _ _ _ _ l _ _ _ _ _ _ _ _ _ _
    refl c.rule_of.ensures.files refl refl c.in_ok-rule.ensures.rule c.in_ok-rule.ensures.counted
    (report_refused list (λ files content run. LinesListed c.args.share l files list content run) err err
    g.T.F.Feed.remaining _ _ _ _ _ _ _ _ is
    (λ files content t may other. refused_names c.args.share l files list content t may other is)
    c.from_residual-in_err-feed.ensures.1 c.in_err-feed.ensures.opened c.in_err-feed.ensures.counted refl)

pub returns-clause-run : goal.returns-clause-run
returns-clause-run g c =
    sum_had (sum_shown c.args.sum)
    (λ l bytes files. LinesListed c.args.share l files c.args.list.now (content_of c.args.list.now bytes files))
    (TellsAll (g.E.Sink.shown c.args.err.now) (g.E.Sink.shown c.print_names-answer.new.err)) _ _ _ _
    (line_by c.in_ok-rule.rule) _ _ _ _ _ _ _ _ _ _
    refl c.rule_of.ensures.files refl refl c.in_ok-rule.ensures.rule c.in_ok-rule.ensures.counted
    (report_file c.args.list.now (λ files content run.
    LinesListed c.args.share (line_by c.in_ok-rule.rule) files c.args.list.now content run) _ _ g.T.F.Feed.remaining
    c.in_ok-feed.feed _ _ _ _ _ _ _ _ _ _ _ _ _ (sym c.eq.ensures ∙ c.if-eq.false) c.in_ok-feed.ensures.opened
    c.open_file.ensures.kept c.in_ok-feed.ensures.counted c.print_names-answer.ensures.run
    c.in_ok-feed.ensures.fresh
    (rw (c.feed-3-1.given.1 (sym c.print_names-answer.ensures.same.input)) at c.close.ensures.counted))

pub returns-in_err-rule-clause-opens : goal.returns-in_err-rule-clause-opens
returns-in_err-rule-clause-opens g c = grind (arith, common_steps, opens_key)

pub returns-then-eq-clause-opens : goal.returns-then-eq-clause-opens
returns-then-eq-clause-opens g c = grind (arith, common_steps, opens_behind, opens_of_input)

pub returns-in_err-feed-clause-opens : goal.returns-in_err-feed-clause-opens
returns-in_err-feed-clause-opens g c = grind (arith, common_steps, opens_behind, opens_of_none)

pub returns-clause-opens : goal.returns-clause-opens
returns-clause-opens g c =
    let own : List ℕ → List (List ℕ) = λ m. every c.args.share.others c.args.share.waiting (names m) in
    opens_behind (λ bytes files. opens_of c.args.list.now + opens_from own (content_of c.args.list.now bytes files))
    _ _ _ _ _ _ _ _ refl c.rule_of.ensures.files c.rule_of.ensures.opens
    (opens_of_file own c.args.list.now g.T.F.Feed.remaining c.in_ok-feed.feed _ _ _ _ _ _ _
    (sym c.eq.ensures ∙ c.if-eq.false) c.in_ok-feed.ensures.opened c.open_file.ensures.kept c.open_file.ensures.opens
    c.print_names-answer.ensures.opens c.close.ensures.opened)
