use Rattle.std.proofs.Common.{◌+◌, ℕ, List, take, drop, slice_index, sym, arith, ◌∙◌}
use Rattle.std.proofs.lemmas.List.{length-set}
use Rattle.sha2.proofs.Schedule256.{slice_index-schedule_first}
use Rattle.sha2.specs.Sha256.{schedule}
use Rattle.pieces.proofs.Lanes.{HasWords_more, piece_bytes, word_turned}
use Rattle.pieces.proofs.sha_lanes.words32.load.Goals as goal

pub first-init : goal.first-init
first-init c = record { words = omega arith; written = λ i lt k none. absurd (omega arith) }

pub first-preserved : goal.first-preserved
first-preserved c =
    let t = c.first.t in
    let at = c.first.invariant in
    record {
      words = rw length-set at.words;
      written = λ i lt.
          let start : ℕ = slice_index c.args.starts.now i + c.args.at in
          let b : List ℕ = take 64 (drop start c.args.bytes.now) in
          let word = word_turned c.message_lanes-message.result i b
          (piece_bytes 64 start c.args.bytes.now c.type_inv.bytes) (c.message_lanes-message.ensures i lt) t
          (omega arith) _ (c.reverse.ensures i lt) in
          HasWords_more (schedule b 48) t i _ _ (omega arith) (at.written i lt)
          (word ∙ sym (slice_index-schedule_first b 48 t (omega arith)));
    }

pub returns-clause-written : goal.returns-clause-written
returns-clause-written c = λ i lt k below. c.first.invariant.written i lt k (omega arith)

pub returns-clause-words : goal.returns-clause-words
returns-clause-words c = c.first.invariant.words
