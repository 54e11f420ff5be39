use Rattle.sumlist.proofs.Common.{◌∙◌, arith, sym}
use Rattle.sumlist.proofs.Reading.{told_by-some}
use Rattle.sumlist.proofs.Stating.{entry_of-name, form_len, stated-form}
use Rattle.sumlist.proofs.line.read_core.Goals as goal

pub name_text-requires-clause-small : goal.name_text-requires-clause-small
name_text-requires-clause-small c =
    let less = form_len c.unslash-is_escaped.result.1.now c.args.kind _ _ _
    (told_by-some c.args.kind _ _ c.in_ok-alg.ensures) in
    omega (arith, less, c.unslash-is_escaped.ensures.bound, c.requires)

pub returns-in_err-given : goal.returns-in_err-given
returns-in_err-given c = rw c.from_residual-in_err-given.ensures (λ e s.
    let is = stated-form c.args.kind c.args.core.now c.unslash-is_escaped.ensures.core c.in_ok-alg.ensures in
    let named = entry_of-name c.unslash-is_escaped.result.0 (c.in_ok-alg.alg, c.in_ok-alg.tag, c.in_ok-alg.body.now) e
    (sym is ∙ s.0) in
    (rw (c.bytes.ensures.value, named.1) at c.in_err-given.ensures) (e.name, named.0, s.1, s.2))
