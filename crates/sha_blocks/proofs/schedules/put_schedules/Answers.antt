use Rattle.std.proofs.Common.{◌≡◌, ◌*◌, ◌+◌, arith}
use Rattle.sha_blocks.proofs.schedules.put_schedules.Goals as goal

pub turns-init : goal.turns-init
turns-init c = record {
  whole = omega arith;
  window = c.first_sixteen-w.ensures;
  keyed = λ i lt k none. absurd (omega arith);
}

pub turns-preserved : goal.turns-preserved
turns-preserved c =
    let n = c.turns.turn in
    let t : 16 * (n + 1) ≡ 16 * n + 16 = omega arith in
    let at = c.turns.invariant in
    record {
      whole = c.put_keyed.ensures.length;
      window = λ i lt. rw t (c.advance.ensures i lt _ (16 * n) (omega arith) (at.window i lt));
      keyed = λ i lt. rw t (c.put_keyed.ensures.keyed i lt _ (at.window i lt) (at.keyed i lt));
    }

pub returns-clause-keyed : goal.returns-clause-keyed
returns-clause-keyed c =
    let at = c.turns.invariant in
    let done : c.turns.turn ≡ 3 = omega arith in (
      omega arith,
      λ i lt. c.put_keyed-2.ensures.keyed i lt _ (rw done at (at.window i lt)) (rw done at (at.keyed i lt)),
    )
