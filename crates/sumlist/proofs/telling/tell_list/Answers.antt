use Rattle.sumlist.proofs.Common.{◌≡◌, ◌++◌, [], Mark, arith, common_steps, err_from_is_err_and, no_lines}
use Rattle.sumlist.proofs.Common.{Err, length-append, refl, rules, ℕ}
use Rattle.std.specs.Prelude.{IsErrOf}
use Rattle.sumlist.proofs.Mapped.{err_is, ok_is}
use Rattle.sumlist.proofs.ToldLines.{counted-more, counts-other, told-fault, told-line, told-none}
use Rattle.sumlist.proofs.ToldLines.{told-stopped, told-too-long}
use Rattle.std.proofs.KnownBytes.{Consumes-nil, Consumes-trans}
use Rattle.sumlist.proofs.Stepping.{all_read}
use Rattle.source.specs.declared.pumping.SourceFault.{SourceFault}
use Rattle.source.specs.declared.pumping.SourceFault.TheVariants.{Read, TooLong}
use Rattle.sumlist.specs.declared.telling.TellFault.TheVariants.{ListTooLong, OutOfMemory, ReportTooLong}
use Rattle.sumlist.specs.inside.Telling.{left, of_list}
use Rattle.sumlist.proofs.telling.tell_list.Goals as goal

-- a list is too long if the reads found it so
too_long : {T U : Type 0} (f : SourceFault) → IsErrOf {T = T} (Err (of_list f)) ListTooLong
    → IsErrOf {T = U} (Err f) TooLong
too_long TooLong is = refl
too_long Read is = let no = is in cc

pub returns-in_err-reader-clause-told : goal.returns-in_err-reader-clause-told
returns-in_err-reader-clause-told g c =
    let fault = err_from_is_err_and c.from_residual.result c.from_residual.ensures.1 in
    let failed : c.in_err-reader.field-0.0 ≡ OutOfMemory = grind (arith, common_steps) in
    let report = left g.F.Feed.remaining c.args.report.now in
    rw (fault.1, fault.2, failed) (told-stopped (told-none _ report _) report)

pub loop-reader-init : goal.loop-reader-init
loop-reader-init g c =
    let none : c.default-summary.result ≡ no_lines = grind arith in
    let reader = rw (ok_is _ _ _ c.in_ok-reader.ensures.cases) at c.new.ensures in
    rw (reader, none) record {
      said = told-none _ _ _;
      read = [];
      consumed = Consumes-nil _;
      ended = search rules;
      counts = search rules;
    }

pub returns-in_err-mark-clause-told : goal.returns-in_err-mark-clause-told
returns-in_err-mark-clause-told g c =
    let i = c.loop-reader.invariant in
    let next = rw (ok_is _ _ _ c.in_ok-map_err.ensures.cases) at c.next.ensures in
    let exit = c.from_residual-in_err-mark in
    let fault = err_from_is_err_and exit.result exit.ensures.1 in
    rw (fault.1, fault.2) (told-fault i.said c.next.new.self.kept (g.L.Feed.remaining c.next.new.feed)
    c.next.new.self.ahead i.counts.number (rw c.if-branch.true at next.line) c.line.result
    c.line.ensures _ _ (counts-other Mark _ _ _ c.in_err-mark.ensures.counted) c.in_err-mark.ensures.told)

pub loop-reader-preserved : goal.loop-reader-preserved
loop-reader-preserved g c =
    let i = c.loop-reader.invariant in
    let next = rw (ok_is _ _ _ c.in_ok-map_err.ensures.cases) at c.next.ensures in
    let gave = next.gave in
    let forth = next.forth c.if-branch.true in
    record {
      said = told-line i.said c.next.new.self.kept _ _ i.counts.number
          (rw c.if-branch.true at next.line) c.line.result c.line.ensures c.in_ok-mark.mark _
          (grind (arith, c.in_ok-lines.ensures, c.ok_or.ensures, c.checked_add-more.ensures, c.line_count.ensures)) c.count.ensures.counted
          c.in_ok-mark.ensures.told;
      read = i.read ++ gave.0;
      consumed = Consumes-trans _ _ _ _ _ i.consumed gave.1;
      ended = next.end;
      counts = grind (arith, length-append {A = ℕ}, counted-more, forth);
    }

pub returns-in_err-map_err-clause-gave : goal.returns-in_err-map_err-clause-gave
returns-in_err-map_err-clause-gave g c =
    let i = c.loop-reader.invariant in
    let failed = err_is _ _ of_list c.in_err-map_err.ensures.cases in
    let gave = (rw failed.1 at c.next.ensures).gave in
    let exit = c.from_residual-in_err-map_err in
    let fault = err_from_is_err_and exit.result exit.ensures.1 in
    rw (fault.1, fault.2, failed.2) (all_read _ _ _ i.read gave.0 _ i.consumed gave.1
    (λ long. rw (i.counts.total, ← length-append) at (gave.2.0 (too_long failed.0 long))))

pub returns-in_err-mark-clause-gave : goal.returns-in_err-mark-clause-gave
returns-in_err-mark-clause-gave g c =
    let i = c.loop-reader.invariant in
    let gave = (rw (ok_is _ _ _ c.in_ok-map_err.ensures.cases) at c.next.ensures).gave in
    let exit = c.from_residual-in_err-mark in
    let fault = err_from_is_err_and exit.result exit.ensures.1 in
    let other = counts-other Mark _ _ _ c.in_err-mark.ensures.counted in
    rw (fault.1, fault.2) (all_read _ _ _ i.read gave.0 _ i.consumed gave.1
    (λ long. let no = long in absurd (other.1 cc)))

pub returns-in_err-lines-clause-told : goal.returns-in_err-lines-clause-told
returns-in_err-lines-clause-told g c =
    let i = c.loop-reader.invariant in
    let next = rw (ok_is _ _ _ c.in_ok-map_err.ensures.cases) at c.next.ensures in
    let exit = c.from_residual-in_err-lines in
    let fault = err_from_is_err_and exit.result exit.ensures.1 in
    let long : c.in_err-lines.field-0.0 ≡ ReportTooLong = grind (arith, common_steps) in
    rw (fault.1, fault.2, long) (told-too-long i.said c.next.new.self.kept (g.L.Feed.remaining c.next.new.feed)
    c.next.new.self.ahead i.counts.number (rw c.if-branch.true at next.line) c.line.result c.line.ensures
    c.in_ok-mark.mark _ (omega arith)
    (grind (arith, c.in_err-lines.ensures, c.checked_add-more.ensures, c.line_count.ensures))
    c.in_ok-mark.ensures.told)

pub returns-in_err-lines-clause-gave : goal.returns-in_err-lines-clause-gave
returns-in_err-lines-clause-gave g c =
    let i = c.loop-reader.invariant in
    let gave = (rw (ok_is _ _ _ c.in_ok-map_err.ensures.cases) at c.next.ensures).gave in
    let exit = c.from_residual-in_err-lines in
    let fault = err_from_is_err_and exit.result exit.ensures.1 in
    let long : c.in_err-lines.field-0.0 ≡ ReportTooLong = grind (arith, common_steps) in
    rw (fault.1, fault.2, long) (all_read _ _ _ i.read gave.0 _ i.consumed gave.1 (λ is. let no = is in cc))

pub returns-clause-gave : goal.returns-clause-gave
returns-clause-gave g c =
    let i = c.loop-reader.invariant in
    let gave = (rw (ok_is _ _ _ c.in_ok-map_err.ensures.cases) at c.next.ensures).gave in
    all_read _ _ _ i.read gave.0 _ i.consumed gave.1 (λ is. let no = is in cc)
