use Rattle.sumlist.proofs.Common.{◌≡◌, [], None, arith, drop, false, nil_from_length, rules, true}
use Rattle.std.proofs.Common.{length-drop}
use Rattle.sumlist.proofs.TakenTexts.{next-none, texts-not, texts-then}
use Rattle.sumlist.specs.inside.Telling.{left}
use Rattle.sumlist.proofs.report_reader.ReportReader.take_pieces.Goals as goal

pub returns-then-not-branch-clause-taken : goal.returns-then-not-branch-clause-taken
returns-then-not-branch-clause-taken g c =
    let missed = rw c.if-not-branch.true at c.in_ok-take.ensures.taken in
    c.loop-piece.invariant.goes None false
    (texts-not (λ piece. piece.now) c.args.pieces.now c.loop-piece.piece-index _ c.loop-piece-test.true
    (left g.F.Feed.remaining c.loop-piece.self) (left g.F.Feed.remaining c.take.new.self) None missed)

pub loop-piece-preserved : goal.loop-piece-preserved
loop-piece-preserved g c =
    let came = rw c.if-not-branch.false at c.in_ok-take.ensures.taken in
    record {
      goes = λ new r later. c.loop-piece.invariant.goes new r
          (texts-then (λ piece. piece.now) c.args.pieces.now c.loop-piece.piece-index _ c.loop-piece-test.true
          (left g.F.Feed.remaining c.loop-piece.self) (left g.F.Feed.remaining c.take.new.self) new r came later);
      counted = search rules;
      same = search rules;
    }

pub returns-clause-taken : goal.returns-clause-taken
returns-clause-taken g c =
    let i = c.loop-piece.piece-index in
    let all : drop i c.args.pieces.now ≡ [] = nil_from_length _ (omega (arith, length-drop i c.args.pieces.now)) in
    c.loop-piece.invariant.goes _ true (rw all (next-none _))
