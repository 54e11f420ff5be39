use Rattle.std.proofs.Common.{arith}
use Rattle.std.proofs.lemmas.Result.{err_from_is_err_and}
use Rattle.partlist.proofs.Reading.{line-length}
use Rattle.partlist.proofs.joining.Joiner.add_told.Goals as goal

pub returns-in_default-clause-added : goal.returns-in_default-clause-added
returns-in_default-clause-added c = λ parts joined part tells. c.in_default.ensures _ _ tells.0 tells.1

pub returns-in_err-add-clause-added : goal.returns-in_err-add-clause-added
returns-in_err-add-clause-added c = λ parts joined.
    let e = err_from_is_err_and c.from_residual.result c.from_residual.ensures.1 in
    rw (e.1, e.2) (c.in_err-add.ensures.added parts joined c.args.line.now c.in-Some.ensures)

pub returns-clause-short : goal.returns-clause-short
returns-clause-short c =
    let short = line-length c.args.line.now c.in-Some.part c.in-Some.ensures in grind (arith, short)
