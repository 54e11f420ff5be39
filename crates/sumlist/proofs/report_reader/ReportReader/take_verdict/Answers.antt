use Rattle.sumlist.proofs.Common.{◌∙◌, None, ap, drop}
use Rattle.sumlist.specs.inside.Telling.{left}
use Rattle.sumlist.proofs.TakenTexts.{verdict-apart, verdict-ends, verdict-never}
use Rattle.sumlist.proofs.report_reader.ReportReader.take_verdict.Goals as goal

pub returns-then-not-branch-2-clause-taken : goal.returns-then-not-branch-2-clause-taken
returns-then-not-branch-2-clause-taken g c =
    let r = g.F.Feed.remaining in
    let named = rw c.if-not-branch.false at c.in_ok-take_name.ensures.taken in
    let apart = rw c.if-not-branch-2.true at c.in_ok-take.ensures.taken in
    verdict-apart c.args.name.now (left r c.args.self.now) (left r c.take_name.new.self) None
    (left r c.take.new.self) named apart

pub returns-in_default-clause-taken : goal.returns-in_default-clause-taken
returns-in_default-clause-taken g c =
    let r = g.F.Feed.remaining in
    let named = rw c.if-not-branch.false at c.in_ok-take_name.ensures.taken in
    let colon = rw c.if-not-branch-2.false at c.in_ok-take.ensures.taken in
    let never = rw c.in_default.is at c.in_ok-verdict.ensures.verdict in
    verdict-never c.args.name.now (left r c.args.self.now) (left r c.take_name.new.self) None
    (left r c.take.new.self) named (left r c.verdict_ahead.new.self) colon never

pub returns-clause-taken : goal.returns-clause-taken
returns-clause-taken g c =
    let r = g.F.Feed.remaining in
    let named = rw c.if-not-branch.false at c.in_ok-take_name.ensures.taken in
    let colon = rw c.if-not-branch-2.false at c.in_ok-take.ensures.taken in
    let next = rw c.in-Some.is at c.in_ok-verdict.ensures.verdict in
    let rest = c.split_at.ensures.back ∙ ap (drop 2) (c.as_bytes.ensures.value ∙ c.verdict_text.ensures) in
    rw c.then_some.ensures (verdict-ends c.args.name.now (left r c.args.self.now) (left r c.take_name.new.self)
    (left r c.take-2.new.self) (left r c.take.new.self) named (left r c.verdict_ahead.new.self) c.in-Some.verdict
    c.in_ok-take-2.field-0 colon next (rw rest at c.in_ok-take-2.ensures.taken))
