use Rattle.std.proofs.lemmas.Grind.{common_steps}
use Rattle.std.proofs.Common.{◌∙◌, arith, refl, sym}
use Rattle.sumlist.specs.Lines.{lines}
use Rattle.command.specs.inside.Verifying.{ComparesName}
use Rattle.command.proofs.Named.{beside_then, of_input, of_none, of_opened, still_held}
use Rattle.command.proofs.Opening.{part_opens-share}
use Rattle.command.proofs.Reading.{known}
use Rattle.command.proofs.Turns.{not_input}
use Rattle.command.proofs.VerifiedNames.{parts_unread}
use Rattle.command.proofs.session.Session.verify_by.Goals as goal

pub returns-in_err-feed-clause-run : goal.returns-in_err-feed-clause-run
returns-in_err-feed-clause-run g c =
    let file = c.args.file in
    known (g.P.Feed.remaining c.args.list.now) (λ text l. of_none
    (ComparesName file.share c.args.parts.now file.name.now text) file.name.now _ _ _ _ _ _ _
    (parts_unread file.share c.args.parts.now file.name.now text) _ _ _ c.in_err-feed.field-0.0
    (not_input file c.if-file-gt0.true) c.in_err-feed.ensures.opened c.in_err-feed.ensures.counted
    c.from_residual.ensures.1 refl refl)

pub returns-then-file-gt0-clause-run : goal.returns-then-file-gt0-clause-run
returns-then-file-gt0-clause-run g c =
    let file = c.args.file in
    let fresh = c.in_ok-feed.ensures.fresh in
    let closed = c.close.ensures.counted in
    known (g.P.Feed.remaining c.args.list.now) (λ text l. of_opened
    (ComparesName file.share c.args.parts.now file.name.now text) file.name.now _ _ _ _ _ _ _ _ _ _ _ _ _
    (g.T.F.Feed.remaining c.in_ok-feed.feed) (not_input file c.if-file-gt0.true) c.in_ok-feed.ensures.opened
    c.in_ok-feed.ensures.counted (λ m is held. (c.compare_parts.ensures.compared text m l (still_held
    (c.close.ensures.kept ∙ c.in_ok-feed.ensures.kept) held)).compared)
    (λ n none p. omega (arith, none, p, fresh, closed)))

pub returns-then-file-gt0-clause-opens : goal.returns-then-file-gt0-clause-opens
returns-then-file-gt0-clause-opens g c =
    let file = c.args.file in
    let one = c.in_ok-feed.ensures.opens in
    let still = c.close.ensures.opened in
    let kept = c.close.ensures.kept ∙ c.in_ok-feed.ensures.kept in
    known (g.P.Feed.remaining c.args.list.now) (λ text l. known (g.T.Tree.files c.args.self.now.tree.now) (λ files t.
    let m = rw t at c.in_ok-feed.ensures.opened in
    let more = (c.compare_parts.ensures.compared text m.0 l (files, kept ∙ t, sym m.1)).opened in
    let own = part_opens-share file.share file.name.now (lines text) c.if-file-gt0.true in
    omega (arith, one, still, more, own)))

pub returns-then-eq-clause-run : goal.returns-then-eq-clause-run
returns-then-eq-clause-run g c =
    let file = c.args.file in
    known (g.P.Feed.remaining c.args.list.now) (λ text l. of_input
    (ComparesName file.share c.args.parts.now file.name.now text) file.name.now _ _ _ _ _ _ _ _ _ _
    (sym c.if-eq.ensures) (λ m is. beside_then
    (c.compare_parts-then-eq.ensures.compared text m l (c.new.ensures.gives m is)).compared
    (λ f lost. grind (arith, common_steps))))

pub returns-in_err-feed-2-clause-run : goal.returns-in_err-feed-2-clause-run
returns-in_err-feed-2-clause-run g c =
    let file = c.args.file in
    known (g.P.Feed.remaining c.args.list.now) (λ text l. of_none
    (ComparesName file.share c.args.parts.now file.name.now text) file.name.now _ _ _ _ _ _ _
    (parts_unread file.share c.args.parts.now file.name.now text) _ _ _ c.in_err-feed-2.field-0.0 (sym c.if-eq.ensures)
    c.in_err-feed-2.ensures.opened c.in_err-feed-2.ensures.counted c.from_residual-in_err-feed-2.ensures.1 refl refl)

pub returns-clause-run : goal.returns-clause-run
returns-clause-run g c =
    let file = c.args.file in
    known (g.P.Feed.remaining c.args.list.now) (λ text l. of_opened
    (ComparesName file.share c.args.parts.now file.name.now text) file.name.now _ _ _ _ _ _ _ _ _ _ _ _ _
    (g.T.F.Feed.remaining c.in_ok-feed-2.feed) (sym c.if-eq.ensures) c.in_ok-feed-2.ensures.opened
    c.in_ok-feed-2.ensures.counted (λ m is held.
    (c.compare_parts-answer.ensures.compared text m l (c.new-2.ensures.gives m is)).compared)
    (λ n none p. grind (arith, common_steps)))
