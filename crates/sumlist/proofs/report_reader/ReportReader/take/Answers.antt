use Rattle.sumlist.proofs.Common.{◌≡◌, ◌+◌, ◌∷◌, [], None, arith, drop, false, nil_from_length, slice_index, true}
use Rattle.std.proofs.Common.{length-drop}
use Rattle.std.proofs.lemmas.List.{drop_more}
use Rattle.sumlist.proofs.TakenTexts.{next-none, next-not}
use Rattle.sumlist.specs.inside.Telling.{left}
use Rattle.sumlist.proofs.report_reader.ReportReader.take.Goals as goal

pub returns-then-not-branch-clause-taken : goal.returns-then-not-branch-clause-taken
returns-then-not-branch-clause-taken g c =
    let i = c.loop-byte.byte-index in
    let text = c.args.text.now in
    let missed = rw c.if-not-branch.true at c.in_ok-take_byte.ensures.taken in
    c.loop-byte.invariant.goes None false (rw (drop_more text i 0 c.loop-byte-test.true)
    (next-not (left g.F.Feed.remaining c.loop-byte.self) (left g.F.Feed.remaining c.take_byte.new.self) None
    (slice_index text i ∷ []) (drop (i + 1) text) missed))

pub returns-clause-taken : goal.returns-clause-taken
returns-clause-taken g c =
    let i = c.loop-byte.byte-index in
    let all : drop i c.args.text.now ≡ [] = nil_from_length _ (omega (arith, length-drop i c.args.text.now)) in
    c.loop-byte.invariant.goes _ true (rw all (next-none _))
