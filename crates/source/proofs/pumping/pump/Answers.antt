use Rattle.std.proofs.Common.{take, ◌++◌, ◌∙◌}
use Rattle.std.proofs.KnownBytes.{Consumes-trans}
use Rattle.source.proofs.Taking.{Gives-trans, Takes-more}
use Rattle.source.proofs.pumping.pump.Goals as goal

pub pieces-preserved : goal.pieces-preserved
pieces-preserved g c =
    let before = c.pieces.invariant in
    let taken = c.in_ok-take_piece-3.ensures in
    let piece = c.take_piece-in-pieces in
    record {
      front = before.front ++ take c.in_ok-take_piece-3.field-0 piece.new.buf;
      takes = Takes-more g.A.Absorb.holds g.A.Absorb.room_left _ _ _ _ _ before.takes taken.appended taken.room;
      consumes = Consumes-trans _ _ _ _ _ before.consumes taken.given;
      count = taken.count ∙ before.count;
      parameters = taken.kept ∙ before.parameters;
      size = piece.auto.buf ∙ before.size;
    }

pub returns-in_err-take_piece-2-clause-gave : goal.returns-in_err-take_piece-2-clause-gave
returns-in_err-take_piece-2-clause-gave g c =
    Gives-trans _ _ _ c.take_piece.ensures.gave c.take_piece-else-branch-eq0.ensures.gave

pub returns-in_err-take_piece-3-clause-gave : goal.returns-in_err-take_piece-3-clause-gave
returns-in_err-take_piece-3-clause-gave g c =
    Gives-trans _ _ _ (Gives-trans _ _ _ c.take_piece.ensures.gave c.take_piece-else-branch-eq0.ensures.gave)
    (Gives-trans _ _ _ (c.pieces.invariant.front, c.pieces.invariant.consumes) c.take_piece-in-pieces.ensures.gave)

pub returns-then-branch-eq0-3-clause-gave : goal.returns-then-branch-eq0-3-clause-gave
returns-then-branch-eq0-3-clause-gave g c =
    Gives-trans _ _ _ (Gives-trans _ _ _ c.take_piece.ensures.gave c.take_piece-else-branch-eq0.ensures.gave)
    (Gives-trans _ _ _ (c.pieces.invariant.front, c.pieces.invariant.consumes) c.take_piece-in-pieces.ensures.gave)
