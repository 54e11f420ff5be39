use Rattle.std.proofs.lemmas.Grind.{common_steps}
use Rattle.std.proofs.Common.{arith, Ok, ap, refl}
use Rattle.std.specs.Prelude.{option_map}
use Rattle.std.proofs.lemmas.Result.{err_from_is_err_and}
use Rattle.command.specs.inside.Rules.{line_by}
use Rattle.command.specs.inside.Streams.{seen_of}
use Rattle.command.proofs.Answering.{digest_said, left_failed, line_said, misnamed, said_failed, unread_said}
use Rattle.command.proofs.Reading.{told_always, told_then}
use Rattle.command.proofs.session.Session.print_compared.Goals as goal

pub returns-in_err-named_by-clause-answer : goal.returns-in_err-named_by-clause-answer
returns-in_err-named_by-clause-answer g c = grind (arith, common_steps, told_always, misnamed)

pub returns-in_err-made-clause-answer : goal.returns-in_err-made-clause-answer
returns-in_err-made-clause-answer g c = grind (arith, common_steps, told_then, unread_said)

pub returns-in_err-write_sum-clause-answer : goal.returns-in_err-write_sum-clause-answer
returns-in_err-write_sum-clause-answer g c =
    let see = seen_of g.L.Feed.remaining g.L.Feed.failure_count g.T.Tree.files g.T.Tree.failure_count
    g.T.Tree.opens g.W.Sink.shown in
    let l = line_by c.args.rule.now in
    rw (ap (option_map (λ tag. tag.now)) c.in_default.is)
    (told_then (see c.args.self.now) c.in_ok-made.ensures.made
    (λ bytes files read. line_said l c.args.name.now c.args.file.now c.in_ok-made.made _ _ _ _
    (c.in_ok-named_by.ensures, read)
    (said_failed _ 0 _ _ _ c.from_residual-in_err-write_sum.ensures.1
    (rw c.made_of_file.ensures.out at c.in_err-write_sum.ensures))))

pub returns-in_default-clause-answer : goal.returns-in_default-clause-answer
returns-in_default-clause-answer g c =
    let see = seen_of g.L.Feed.remaining g.L.Feed.failure_count g.T.Tree.files g.T.Tree.failure_count
    g.T.Tree.opens g.W.Sink.shown in
    let l = line_by c.args.rule.now in
    rw (ap (option_map (λ tag. tag.now)) c.in_default.is)
    (told_then (see c.args.self.now) c.in_ok-made.ensures.made
    (λ bytes files read. line_said l c.args.name.now c.args.file.now c.in_ok-made.made _ (Ok 0) _ _
    (c.in_ok-named_by.ensures, read) (refl, rw c.made_of_file.ensures.out at c.in_ok-write_sum.ensures)))

pub returns-clause-answer : goal.returns-clause-answer
returns-clause-answer g c =
    let see = seen_of g.L.Feed.remaining g.L.Feed.failure_count g.T.Tree.files g.T.Tree.failure_count
    g.T.Tree.opens g.W.Sink.shown in
    let l = line_by c.args.rule.now in
    rw (ap (option_map (λ tag. tag.now)) c.in-Some.is)
    (told_then (see c.args.self.now) c.in_ok-made.ensures.made
    (λ bytes files read. digest_said l c.args.name.now c.args.file.now c.in_ok-made.made c.in-Some.bytes.now
    c.is_made.result _ _ _ _ (c.in_ok-named_by.ensures, read) c.is_made.ensures
    (rw c.made_of_file.ensures.out at c.print_verdict.ensures.said)))

pub returns-in_err-write_sum-clause-read : goal.returns-in_err-write_sum-clause-read
returns-in_err-write_sum-clause-read g c = grind (arith, common_steps, err_from_is_err_and, left_failed)
