use Rattle.sumlist.proofs.Common.{◌*◌, None, Some, decimal, rules}
use Rattle.std.proofs.lemmas.Bool.Decides.{Decides-eqb}
use Rattle.std.proofs.lemmas.Slice.Eq.{strip_prefix_is}
use Rattle.sumlist.proofs.labels.find_number.Goals as goal

pub returns-in_err-digits : goal.returns-in_err-digits
returns-in_err-digits c = rw c.from_residual.ensures (λ n some fits.
    strip_prefix_is Decides-eqb c.args.label.now c.args.front.now None c.in_err-digits.ensures.cases (decimal (8 * n)))

pub returns-then-eq : goal.returns-then-eq
returns-then-eq c =
    let whole = strip_prefix_is Decides-eqb _ _ (Some c.in_ok-digits.digits) c.in_ok-digits.ensures.cases in
    search (rules, whole)
