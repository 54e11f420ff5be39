use Rattle.std.proofs.Common.{◌∙◌, sym}
use Rattle.partlist.proofs.Spelling.{cut_decimal, none_cut}
use Rattle.partlist.proofs.line.cut_number.Goals as goal

pub returns-in_err-digits : goal.returns-in_err-digits
returns-in_err-digits c = rw c.from_residual.ensures
    (λ n rest h e. none_cut n c.args.text.now rest h c.in_err-digits.ensures e)

pub returns-in_err-number_of : goal.returns-in_err-number_of
returns-in_err-number_of c = rw c.from_residual-in_err-number_of.ensures
    (λ n rest h e. c.in_err-number_of.ensures n h
    (cut_decimal n _ _ rest h (sym c.in_ok-digits.ensures.0 ∙ e) c.in_ok-digits.ensures.1).0)
