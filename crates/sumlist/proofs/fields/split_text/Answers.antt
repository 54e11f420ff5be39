use Rattle.sumlist.proofs.Common.{◌∙◌, arith, nat_tests, nil_from_length, refl, sym}
use Rattle.sumlist.proofs.Reading.{cut-none, told_by-cut}
use Rattle.sumlist.proofs.fields.split_text.Goals as goal

pub returns-in_err-word : goal.returns-in_err-word
returns-in_err-word c = rw (c.from_residual.ensures, cut-none c.args.text.now c.in_err-word.ensures) refl

pub returns-in_err-mark : goal.returns-in_err-mark
returns-in_err-mark c =
    let empty = nil_from_length _ c.in_err-mark.ensures.cases in
    rw (c.from_residual-in_err-mark.ensures, told_by-cut c.args.kind _ _ _ c.in_ok-word.ensures, empty) refl

pub returns-then-is_mark : goal.returns-then-is_mark
returns-then-is_mark c =
    rw (told_by-cut c.args.kind _ _ _ c.in_ok-word.ensures, c.in_ok-mark.ensures.cases.0, sym c.if-is_mark.ensures)
    c.split_plain.ensures

pub returns-in-40 : goal.returns-in-40
returns-in-40 c = rw (told_by-cut c.args.kind _ _ _ c.in_ok-word.ensures, c.in_ok-mark.ensures.cases.0, c.in-40.is)
    c.split_tagged.ensures

pub returns-in_default-2 : goal.returns-in_default-2
returns-in_default-2 c = told_by-cut c.args.kind _ _ _ c.in_ok-word.ensures
    ∙ rw (c.in_ok-mark.ensures.cases.0, sym c.if-is_mark.ensures) (grind (arith, nat_tests))
