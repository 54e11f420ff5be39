use Rattle.sumlist.proofs.Common.{◌≡◌, [], None, arith, drop, escape_of, false, nil_from_length, true}
use Rattle.std.proofs.Common.{length-drop}
use Rattle.sumlist.proofs.TakenTexts.{next-none, texts-not}
use Rattle.sumlist.specs.inside.Telling.{left}
use Rattle.sumlist.proofs.report_reader.ReportReader.take_name.Goals as goal

pub returns-then-not-branch-clause-taken : goal.returns-then-not-branch-clause-taken
returns-then-not-branch-clause-taken g c =
    let missed = rw (c.if-not-branch.true, c.escape.ensures.value) at c.in_ok-take.ensures.taken in
    c.loop-byte.invariant.goes None false
    (texts-not escape_of c.as_bytes-byte-items.result.now c.loop-byte.byte-index 0 c.loop-byte-test.true
    (left g.F.Feed.remaining c.loop-byte.self) (left g.F.Feed.remaining c.take.new.self) None missed)

pub returns-clause-taken : goal.returns-clause-taken
returns-clause-taken g c =
    let i = c.loop-byte.byte-index in
    let items = c.as_bytes-byte-items.result.now in
    let all : drop i items ≡ [] = nil_from_length _ (omega (arith, length-drop i items)) in
    c.loop-byte.invariant.goes _ true (rw all (next-none _))
