use Rattle.std.proofs.Common.{◌∙◌}
use Rattle.std.proofs.lemmas.Fmt.{parse-decimal}
use Rattle.partlist.proofs.Spelling.{IsUtf8-decimal}
use Rattle.partlist.proofs.line.read_number.Goals as goal

pub returns-in-Ok : goal.returns-in-Ok
returns-in-Ok c n h e =
    let read = parse-decimal 64 n c.in-Ok.text.now c.parse.result h h (c.in-Ok.ensures.cases.0 ∙ e)
    c.parse.ensures.value.0 in
    search

pub returns-in-Err : goal.returns-in-Err
returns-in-Err c n h e = absurd (c.in-Err.ensures.cases.0 (rw e (IsUtf8-decimal n h)))
