use Rattle.std.proofs.lemmas.Grind.{common_steps}
use Rattle.std.proofs.Common.{arith}
use Rattle.hex.specs.Hex.{encode_lower}
use Rattle.sumlist.specs.Entry.{ending}
use Rattle.sumlist.specs.Escape.{lead}
use Rattle.source.proofs.Writing.{Failed-after, Failed-more, Writes-after, Writes-exit}
use Rattle.command.specs.inside.Keys.{made_bytes}
use Rattle.command.proofs.making.write_beside.Goals as goal

pub returns-then-is_raw : goal.returns-then-is_raw
returns-then-is_raw g c = rw c.if-is_raw.true c.write_made.ensures

pub returns-in_err-write_lead : goal.returns-in_err-write_lead
returns-in_err-write_lead g c = grind (arith, common_steps, Writes-exit, Failed-more)

pub returns-in_err-write_made : goal.returns-in_err-write_made
returns-in_err-write_made g c =
    rw c.if-is_raw.false (Writes-exit _ _ _ _ c.from_residual-in_err-write_made.ensures.0
    (Failed-after _ _ _ (lead c.args.name.now) _ c.in_ok-write_lead.ensures
    (Failed-more _ _ (encode_lower (made_bytes c.args.made)) (ending c.args.name.now) c.in_err-write_made.ensures)))

pub returns : goal.returns
returns g c = grind (arith, common_steps, Writes-after)
