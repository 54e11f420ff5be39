use Rattle.std.proofs.Common.{◌≡◌, ◌+◌, ◌-◌, ◌∙◌, Bool, arith, false, refl, sym}
use Rattle.std.proofs.lemmas.Bool.{false≢true}
use Rattle.std.proofs.lemmas.List.{get_or-replicate}
use Rattle.pieces.proofs.rows.write_window.Goals as goal

pub groups-init : goal.groups-init
groups-init g c = record {
  length = refl;
  right = λ k lt marked. absurd (false≢true (sym (get_or-replicate {A = Bool} 64 k false false lt) ∙ marked));
  kept = λ i before. before;
}

pub returns-clause-right : goal.returns-clause-right
returns-clause-right g c = λ i above below.
    let at : c.args.first + (i - c.args.first) ≡ i = omega arith in
    rw at at (c.rest.invariant.done (i - c.args.first) (omega arith))
