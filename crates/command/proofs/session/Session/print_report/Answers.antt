use Rattle.std.proofs.Common.{◌≡◌, Err, Ok, Result, arith, false, if◌then◌else◌, refl}
use Rattle.std.proofs.lemmas.Bool.Decides.{nat_tests}
use Rattle.std.specs.Prelude.{[], ◌==◌, option_map}
use Rattle.sumlist.specs.declared.summary.Summary.{Summary}
use Rattle.command.specs.Checking.{notes_of}
use Rattle.command.specs.Lines.{is_input}
use Rattle.command.specs.Run.{TellsAll}
use Rattle.command.specs.inside.Rules.{meaning}
use Rattle.command.specs.inside.Streams.{seen_of}
use Rattle.command.specs.declared.fault.Fault.{Fault}
use Rattle.command.proofs.Given.{reads_done, reads_passed}
use Rattle.command.proofs.Listing.{graded-leaves}
use Rattle.command.proofs.session.Session.print_report.Goals as goal
use Rattle.command.proofs.session.Session.print_report.Goals.{else-is_alone, then-is_alone}

pub returns-after-is_alone-clause-report : goal.returns-after-is_alone-clause-report
returns-after-is_alone-clause-report g c =
    let see = seen_of g.L.Feed.remaining g.L.Feed.failure_count g.T.Tree.files g.T.Tree.failure_count
    g.T.Tree.opens g.W.Sink.shown in
    let r : Result Summary Fault = Ok c.in-Ok.summary in
    let told : TellsAll (g.E.Sink.shown c.args.err.now) (g.E.Sink.shown c.if-is_alone.err)
    (if c.args.share.now.others == 0 then notes_of c.args.reporting (meaning c.args.entries.now)
    (option_map (λ n. n.now) c.args.title) c.args.name.now c.in-Ok.summary else []) = elim c.if-is_alone.branch [
      | then-is_alone w ↦ rw (w.if-is_alone.true, w.err-is) w.remark.ensures
      | else-is_alone w ↦
          let other = w.if-is_alone.false in
          let shared : (c.args.share.now.others == 0) ≡ false = grind (arith, nat_tests, other) in
          rw (shared, w.err-is) refl
    ] in
    rw c.status_of.ensures (reads_done _ (is_input c.args.name.now) false (see c.args.self.now)
    (see c.check_named.new.self) _ _ _ (c.in-Ok.ensures.run c.args.reporting (g.E.Sink.shown c.args.err.now) _ told)
    (graded-leaves _ r _ _ c.in-Ok.ensures.gave))

pub returns-in-Err-clause-report : goal.returns-in-Err-clause-report
returns-in-Err-clause-report g c =
    let see = seen_of g.L.Feed.remaining g.L.Feed.failure_count g.T.Tree.files g.T.Tree.failure_count
    g.T.Tree.opens g.W.Sink.shown in
    let r : Result Summary Fault = Err c.in-Err.fault in
    reads_passed _ (is_input c.args.name.now) false (see c.args.self.now) (see c.check_named.new.self) _ _
    c.in-Err.fault _
    _ _ (c.in-Err.ensures.run c.args.reporting (g.E.Sink.shown c.args.err.now) _ refl)
    (graded-leaves _ r _ _ c.in-Err.ensures.gave) (rw c.whole.ensures.others at c.pass_over.ensures.passes)
