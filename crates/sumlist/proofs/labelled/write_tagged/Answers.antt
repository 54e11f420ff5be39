use Rattle.sumlist.proofs.Common.{Err, Ok, Result, refl}
use Rattle.std.specs.Prelude.{OnOk}
use Rattle.sumlist.proofs.Spelling.{tagged_spells}
use Rattle.sumlist.proofs.labelled.write_tagged.Goals as goal

on_ok : {T E P : Type 0} (r : Result T E) → P → OnOk r P
on_ok (Ok x) p = p
on_ok (Err e) p = tt

pub returns-clause-spells : goal.returns-clause-spells
returns-clause-spells g c = on_ok c.map_err.result
    (λ kind. tagged_spells c.args.entry.now kind c.name.ensures.entry
    (rw (c.alg.ensures.value, c.name.ensures.value) at (c.if-not-tagged_fits.ensures.0 refl)))
