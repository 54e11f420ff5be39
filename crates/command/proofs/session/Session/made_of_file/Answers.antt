use Rattle.std.proofs.Common.{refl, rules, sym, ◌∙◌, ◌≡◌}
use Rattle.command.specs.inside.Keys.{made_bytes}
use Rattle.command.specs.inside.Rules.{line_by}
use Rattle.command.specs.declared.making.Made.{Made}
use Rattle.command.proofs.Inputs.{Counted-file, Counted-input, Reads-file, Reads-input}
use Rattle.command.proofs.session.Session.made_of_file.Goals as goal

pub returns-then-eq-clause-made : goal.returns-then-eq-clause-made
returns-then-eq-clause-made g c =
    let l = line_by c.args.rule.now in
    Reads-input c.args.name.now (g.L.Feed.remaining c.args.self.now.input.now)
    (g.T.Tree.files c.args.self.now.tree.now) l.limit (λ m made. made_bytes made ≡ l.bytes m) c.made_of_feed.result
    (sym c.eq.ensures ∙ c.if-eq.true) c.made_of_feed.ensures.made

pub returns-then-eq-clause-read : goal.returns-then-eq-clause-read
returns-then-eq-clause-read g c =
    record {
      counted = Counted-input Made c.args.name.now (g.L.Feed.remaining c.args.self.now.input.now)
          (g.T.Tree.files c.args.self.now.tree.now) c.made_of_feed.result _ _ _ _ (sym c.eq.ensures ∙ c.if-eq.true)
          c.made_of_feed.ensures.counted refl;
      gave = search rules;
      files = search rules;
      opens = search rules;
    }

pub returns-clause-made : goal.returns-clause-made
returns-clause-made g c =
    let l = line_by c.args.rule.now in
    Reads-file c.args.name.now g.T.F.Feed.remaining c.in_ok-feed.feed
    (g.L.Feed.remaining c.args.self.now.input.now) (g.T.Tree.files c.args.self.now.tree.now) l.limit
    (λ m made. made_bytes made ≡ l.bytes m) c.made_of_feed-answer.result (sym c.eq.ensures ∙ c.if-eq.false)
    c.in_ok-feed.ensures.opened c.made_of_feed-answer.ensures.made

pub returns-clause-read : goal.returns-clause-read
returns-clause-read g c =
    record {
      counted = Counted-file Made c.args.name.now g.T.F.Feed.remaining c.in_ok-feed.feed
          (g.L.Feed.remaining c.args.self.now.input.now) (g.T.Tree.files c.args.self.now.tree.now)
          c.made_of_feed-answer.result _ _ _ _ _ _ (sym c.eq.ensures ∙ c.if-eq.false) c.in_ok-feed.ensures.opened
          c.in_ok-feed.ensures.counted c.in_ok-feed.ensures.fresh c.made_of_feed-answer.ensures.counted
          c.close.ensures.counted;
      gave = search rules;
      files = search rules;
      opens = search rules;
    }
