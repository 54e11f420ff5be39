use Rattle.std.proofs.lemmas.Grind.{common_steps}
use Rattle.std.proofs.Common.{◌∙◌, arith}
use Rattle.std.proofs.lemmas.Result.{err_from_is_err_and}
use Rattle.command.proofs.Keeping.{kept_end, kept_one, kept_over, kept_start, kept_stop}
use Rattle.command.proofs.Walking.{ended, passed_over, took, walked_broken, walked_end, walked_one, walked_over}
use Rattle.command.proofs.Walking.{walked_start, walked_stop}
use Rattle.command.proofs.items.walk.Goals as goal

pub items-init : goal.items-init
items-init g c = grind (arith, common_steps, walked_start, kept_start)

pub returns-in_err-next-clause-run : goal.returns-in_err-next-clause-run
returns-in_err-next-clause-run g c =
    let e = err_from_is_err_and c.from_residual.result c.from_residual.ensures.1 in
    rw (e.1, e.2, c.next.ensures.unwritten) (walked_broken c.laws.ensures.counted_more c.next.new.self c.items.invariant.walked _
    (c.in_err-next.ensures.broken c.args.items.now c.items.invariant.same))

pub returns-in_err-next-clause-same : goal.returns-in_err-next-clause-same
returns-in_err-next-clause-same g c = c.laws.ensures.same_both _ _ _ c.items.invariant.same c.next.ensures.same

pub returns-in_err-next-clause-kept : goal.returns-in_err-next-clause-kept
returns-in_err-next-clause-kept g c = kept_end c.laws.ensures.keeps_both c.next.new.self c.items.invariant.kept
    c.next.ensures.kept c.next.new.self (c.laws.ensures.keeps_none c.next.new.self)

pub returns-in_err-print-clause-run : goal.returns-in_err-print-clause-run
returns-in_err-print-clause-run g c =
    let its = took c.items.invariant.others c.takes_next.ensures.taken c.takes_next.ensures.waiting
    c.if-takes_next.true in
    let e = err_from_is_err_and c.from_residual-in_err-print.result
    c.from_residual-in_err-print.ensures.1 in
    rw (e.1, e.2) (walked_stop c.laws.ensures.counted_more c.next.new.self c.items.invariant.walked
    (g.I.Items.state c.next.new.self) (g.I.Items.items c.next.new.self) (g.I.Items.at c.next.new.self) _
    c.in_ok-next.ensures.moved c.in_ok-next.ensures.had c.if-branch.true (g.I.Items.walk c.next.new.self)
    (c.laws.ensures.step_same _ _ (c.laws.ensures.same_both _ _ _ c.items.invariant.same c.next.ensures.same)) _
    (g.I.Items.state c.print.new.self) c.print.new.self _ _ its.0
    (rw c.next.ensures.unwritten at c.in_err-print.ensures.printed))

pub returns-in_err-print-clause-kept : goal.returns-in_err-print-clause-kept
returns-in_err-print-clause-kept g c =
    let its = took c.items.invariant.others c.takes_next.ensures.taken c.takes_next.ensures.waiting
    c.if-takes_next.true in
    kept_stop c.laws.ensures.keeps_both c.next.new.self c.items.invariant.kept c.next.ensures.kept
    (g.I.Items.items c.next.new.self) (g.I.Items.at c.next.new.self)
    (rw c.if-branch.true at c.in_ok-next.ensures.moved) c.print.new.self its.0 c.print.ensures.kept

pub items-preserved-then-takes_next : goal.items-preserved-then-takes_next
items-preserved-then-takes_next g c =
    let its = took c.items.invariant.others c.takes_next.ensures.taken c.takes_next.ensures.waiting
    c.if-takes_next.true in
    let most = c.max-status.ensures in record {
      others = c.takes_next.ensures.others ∙ c.items.invariant.others;
      walked = rw c.print.ensures.items (walked_one c.laws.ensures.counted_more c.next.new.self c.items.invariant.walked
          (g.I.Items.state c.next.new.self) (g.I.Items.items c.next.new.self) (g.I.Items.at c.next.new.self) _
          c.in_ok-next.ensures.moved c.in_ok-next.ensures.had c.if-branch.true (g.I.Items.walk c.next.new.self)
          (c.laws.ensures.step_same _ _ (c.laws.ensures.same_both _ _ _ c.items.invariant.same c.next.ensures.same)) _ _
          c.print.new.self _ _ its (omega (arith, most))
          (rw c.next.ensures.unwritten at c.in_ok-print.ensures.printed));
      same = c.laws.ensures.same_both _ _ _ c.items.invariant.same
          (c.laws.ensures.same_both _ _ _ c.next.ensures.same c.print.ensures.same);
      kept = rw c.print.ensures.items (kept_one c.laws.ensures.keeps_both c.next.new.self c.items.invariant.kept
          c.next.ensures.kept (g.I.Items.items c.next.new.self) (g.I.Items.at c.next.new.self)
          (rw c.if-branch.true at c.in_ok-next.ensures.moved) c.print.new.self its.0 c.print.ensures.kept
          its.1);
    }

pub items-preserved : goal.items-preserved
items-preserved g c =
    let its = passed_over c.items.invariant.others c.takes_next.ensures.taken c.takes_next.ensures.waiting
    c.if-takes_next.false in record {
      others = c.takes_next.ensures.others ∙ c.items.invariant.others;
      walked = rw c.next.ensures.unwritten (walked_over c.laws.ensures.counted_more c.next.new.self c.items.invariant.walked
          (g.I.Items.state c.next.new.self)
          (g.I.Items.items c.next.new.self) (g.I.Items.at c.next.new.self) _ c.in_ok-next.ensures.moved
          c.in_ok-next.ensures.had c.if-branch.true its);
      same = c.laws.ensures.same_both _ _ _ c.items.invariant.same c.next.ensures.same;
      kept = kept_over c.laws.ensures.keeps_both c.next.new.self c.items.invariant.kept c.next.ensures.kept
          (g.I.Items.items c.next.new.self) (g.I.Items.at c.next.new.self)
          (rw c.if-branch.true at c.in_ok-next.ensures.moved) its;
    }

pub returns-clause-run : goal.returns-clause-run
returns-clause-run g c = rw (c.end.ensures.unwritten, c.next.ensures.unwritten) (walked_end c.laws.ensures.counted_more c.next.new.self c.items.invariant.walked
    (g.I.Items.state c.next.new.self) (g.I.Items.items c.next.new.self) (g.I.Items.at c.next.new.self) _
    c.in_ok-next.ensures.moved c.in_ok-next.ensures.had c.if-branch.false _ c.end.new.self
    (ended (g.I.Items.walk c.next.new.self) (g.I.Items.walk c.args.items.now)
    (λ f. g.I.Items.counted f c.next.new.self c.end.new.self) (g.I.Items.state c.next.new.self) c.items.status
    c.end.result (c.laws.ensures.ending_same _ _ (c.laws.ensures.same_both _ _ _
    c.items.invariant.same c.next.ensures.same)) c.end.ensures.ended))

pub returns-clause-kept : goal.returns-clause-kept
returns-clause-kept g c = kept_end c.laws.ensures.keeps_both c.next.new.self c.items.invariant.kept
    c.next.ensures.kept c.end.new.self c.end.ensures.kept
