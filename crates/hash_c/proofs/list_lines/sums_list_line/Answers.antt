use Rattle.std.proofs.Common.{◌∙◌, arith, rules, sym}
use Rattle.hash_c.proofs.ListLines.{length-line_text}
use Rattle.hash_c.proofs.list_lines.sums_list_line.Goals as goal

-- the line has another length than the memory for it
pub returns-in-Err-Length : goal.returns-in-Err-Length
returns-in-Err-Length c =
    let left = rw c.in-Err-Length.field-0-is at c.in-Err-Length.ensures in
    record {
      line = λ is. absurd (omega arith);
      no_hash = λ is. absurd (omega arith);
      digest_length = λ is. absurd (omega arith);
      no_line = λ is. absurd (omega arith);
      output_length = λ _. (
        c.in-Ok.alg,
        c.in-Ok.ensures,
        left.1,
        λ is. left.2 (is ∙ sym (length-line_text _ _ left.0)),
      );
      some = search rules;
      kept = λ _. left.3;
    }
