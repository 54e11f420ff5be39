use Rattle.std.proofs.Common.{[], ◌∷◌, None, Some}
use Rattle.std.proofs.lemmas.Bool.Decides.{Decides-eqb}
use Rattle.std.proofs.lemmas.Slice.Eq.{strip_prefix_is}
use Rattle.task.proofs.Beginnings.{has_name, lacks_name}
use Rattle.task.proofs.hashing.after_name.Goals as goal

pub returns-in_err-strip_prefix : goal.returns-in_err-strip_prefix
returns-in_err-strip_prefix c =
    lacks_name c.args.text.now c.args.name.now c.as_bytes.result.now c.from_residual.result c.as_bytes.ensures.value
    (strip_prefix_is Decides-eqb c.args.text.now c.as_bytes.result.now None c.in_err-strip_prefix.ensures.cases)
    c.from_residual.ensures

pub returns : goal.returns
returns c =
    has_name c.args.text.now c.args.name.now c.as_bytes.result.now c.in_ok-strip_prefix.field-0.now
    c.strip_prefix-2.result c.as_bytes.ensures.value
    (strip_prefix_is Decides-eqb c.args.text.now c.as_bytes.result.now (Some c.in_ok-strip_prefix.field-0)
    c.in_ok-strip_prefix.ensures.cases)
    (strip_prefix_is Decides-eqb c.in_ok-strip_prefix.field-0.now (58 ∷ []) c.strip_prefix-2.result
    c.strip_prefix-2.ensures.cases)
