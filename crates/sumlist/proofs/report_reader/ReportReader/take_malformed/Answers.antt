use Rattle.std.proofs.Common.{sym}
use Rattle.sumlist.proofs.TakenTexts.{next-ok}
use Rattle.sumlist.proofs.report_reader.ReportReader.take_malformed.Goals as goal

pub returns-in_default-clause-taken : goal.returns-in_default-clause-taken
returns-in_default-clause-taken g c =
    rw (c.in_default.is, sym c.format.ensures.text, sym c.as_bytes-digits.ensures.value) c.take_pieces.ensures.taken

pub returns-clause-taken : goal.returns-clause-taken
returns-clause-taken g c =
    let named = rw c.if-not-branch.false at c.in_ok-take_name.ensures.taken in
    rw (c.in-Some.is, sym c.format.ensures.text, sym c.as_bytes-digits.ensures.value)
    (next-ok c.take_pieces-2.result _ _ _ _ _ named c.take_pieces-2.ensures.taken)
