use Rattle.std.proofs.lemmas.Grind.{common_steps}
use Rattle.std.proofs.Common.{Some, arith, refl, sym}
use Rattle.b3.proofs.Powers.{pow_from_ones}
use Rattle.command.specs.inside.Cutting.{EachOf}
use Rattle.command.proofs.EachPart.{each_run, each_starved, each_unread}
use Rattle.command.proofs.Named.{beside_then, of_file, of_input, of_none, of_opened}
use Rattle.command.proofs.Turns.{not_input}
use Rattle.command.proofs.session.Session.print_parts.Goals as goal

pub room_for_run-requires : goal.room_for_run-requires
room_for_run-requires g c =
    let most = c.args.parts.most in
    pow_from_ones 55 c.args.parts.chunks (omega (arith, most)) c.args.parts.power

pub returns-in_err-run-clause-run : goal.returns-in_err-run-clause-run
returns-in_err-run-clause-run g c =
    each_starved c.args.file.share c.args.parts.chunks c.args.file.name.now _ _ _ _ _ _ _ c.from_residual.ensures.1 refl

pub returns-then-file-gt0-clause-run : goal.returns-then-file-gt0-clause-run
returns-then-file-gt0-clause-run g c =
    let file = c.args.file in
    let is = EachOf file.share c.args.parts.chunks file.name.now in
    each_run file.share c.args.parts.chunks file.name.now _ _ _ _ _ _ _ _ _ (of_file is file.name.now _
    (g.T.Tree.files c.args.self.now.tree.now) _ _ _ _ _ _ _ _ (not_input file c.if-file-gt0.true)
    (λ content held. (c.write_parts.ensures.printed content held).printed))

pub returns-then-eq-clause-run : goal.returns-then-eq-clause-run
returns-then-eq-clause-run g c =
    let file = c.args.file in
    let is = EachOf file.share c.args.parts.chunks file.name.now in
    each_run file.share c.args.parts.chunks file.name.now _ _ _ _ _ _ _ _ _ (of_input is file.name.now _ _ _ _ _ _ _ _ _
    _ (sym c.if-eq.ensures) (λ m at. beside_then
    (c.write_parts-then-eq.ensures.printed (Some m) (c.new.ensures.gives m at)).printed
    (λ f lost. grind (arith, common_steps))))

pub returns-in_err-feed-clause-run : goal.returns-in_err-feed-clause-run
returns-in_err-feed-clause-run g c =
    let file = c.args.file in
    let is = EachOf file.share c.args.parts.chunks file.name.now in
    each_run file.share c.args.parts.chunks file.name.now _ _ _ _ _ _ _ _ _ (of_none is file.name.now _ _ _ _ _ _ _
    (each_unread file.share c.args.parts.chunks file.name.now) _ _ _ c.in_err-feed.field-0.0
    (sym c.if-eq.ensures) c.in_err-feed.ensures.opened c.in_err-feed.ensures.counted
    c.from_residual-in_err-feed.ensures.1 refl refl)

pub returns-clause-run : goal.returns-clause-run
returns-clause-run g c =
    let file = c.args.file in
    let is = EachOf file.share c.args.parts.chunks file.name.now in
    each_run file.share c.args.parts.chunks file.name.now _ _ _ _ _ _ _ _ _
    (of_opened is file.name.now _ _ _ _ _ _ _ _ _
    _ _ _ _ (g.T.F.Feed.remaining c.in_ok-feed.feed) (sym c.if-eq.ensures) c.in_ok-feed.ensures.opened
    c.in_ok-feed.ensures.counted (λ m at held.
    (c.write_parts-answer.ensures.printed (Some m) (c.new-2.ensures.gives m at)).printed)
    (λ n none p. grind (arith, common_steps)))
