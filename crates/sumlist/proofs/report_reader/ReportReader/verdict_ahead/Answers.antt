use Rattle.sumlist.proofs.Common.{◌≤◌, arith, length}
use Rattle.sumlist.proofs.TakenTexts.{ahead-cons, ahead-first}
use Rattle.sumlist.proofs.report_reader.ReportReader.verdict_ahead.Goals as goal

pub returns-clause-verdict : goal.returns-clause-verdict
returns-clause-verdict g c =
    let s = c.has_more.new.self in
    let more = rw c.if-not-branch.false at c.in_ok-has_more.ensures.more in
    let some = c.in_ok-has_more.ensures.ahead c.if-not-branch.false in
    let within : s.end ≤ length s.buffer = omega arith in
    ahead-first _ _ _ (ahead-cons s.buffer s.start s.end some within) _ _ c.verdict_of.result more c.verdict_of.ensures
