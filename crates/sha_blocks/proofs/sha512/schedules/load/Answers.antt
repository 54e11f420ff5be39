use Rattle.std.proofs.Common.{[], arith, slice_index_or, sym, ◌∙◌}
use Rattle.std.proofs.lemmas.List.{length-set}
use Rattle.sha2.proofs.Schedule512.{slice_index-schedule_first}
use Rattle.sha_blocks.proofs.Rounds512.{IsAhead_at, IsKeyedTo_more, IsWrittenTo_more}
use Rattle.sha_blocks.proofs.sha512.schedules.load.Goals as goal

pub first-init : goal.first-init
first-init c = record {
  words = omega arith;
  out = omega arith;
  ahead = λ i lt. (λ k none. absurd (omega arith), λ k none. absurd (omega arith));
}

pub first-preserved : goal.first-preserved
first-preserved c =
    let t = c.first.t in
    let at = c.first.invariant in
    record {
      words = rw length-set at.words;
      out = rw length-set at.out;
      ahead = λ i lt.
          let b = slice_index_or c.args.blocks.now i [] in
          let word = c.block_words-word.ensures i lt ∙ sym (slice_index-schedule_first b 64 t (omega arith)) in (
            IsWrittenTo_more b t i _ _ (omega arith) (at.ahead i lt).0 word,
            IsKeyedTo_more b t i _ _ _ (omega arith) (at.ahead i lt).1 word (c.keyed.ensures i lt),
          );
    }

pub returns-clause-ahead : goal.returns-clause-ahead
returns-clause-ahead c = λ i lt.
    IsAhead_at (slice_index_or c.args.blocks.now i []) _ 16 i _ _ (omega arith) (c.first.invariant.ahead i lt)
