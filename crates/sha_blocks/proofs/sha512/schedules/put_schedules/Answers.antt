use Rattle.std.proofs.Common.{[], arith, slice_index_or}
use Rattle.sha_blocks.proofs.Rounds512.{IsAhead_at}
use Rattle.sha_blocks.proofs.sha512.schedules.put_schedules.Goals as goal

pub turns-init : goal.turns-init
turns-init c = record {
  words = c.load.ensures.words;
  out = c.load.ensures.out;
  ahead = c.load.ensures.ahead;
}

pub turns-preserved : goal.turns-preserved
turns-preserved c = record {
  words = c.four_steps.ensures.words;
  out = c.four_steps.ensures.out;
  ahead = λ i lt.
      let b = slice_index_or c.args.blocks.now i [] in
      IsAhead_at b _ _ i _ _ (omega arith) (c.four_steps.ensures.ahead i lt b (c.turns.invariant.ahead i lt));
}

pub returns-clause-keyed : goal.returns-clause-keyed
returns-clause-keyed c = (
  omega arith,
  λ i lt.
      let b = slice_index_or c.args.blocks.now i [] in
      (IsAhead_at b _ 80 i _ _ (omega arith) (c.turns.invariant.ahead i lt)).1,
)
