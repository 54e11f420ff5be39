use Rattle.std.proofs.Common.{arith, length-take-le}
use Rattle.std.proofs.lemmas.Slice.{drop-put_mid}
use Rattle.pieces.proofs.digests.put_digest.Goals as goal

pub returns-clause-rest : goal.returns-clause-rest
returns-clause-rest g c =
    rw c.copy_from_slice.ensures.after
    (drop-put_mid c.args.at _ c.args.out.now _ _ (omega arith) (omega arith)
    (omega (arith, length-take-le c.args.size c.args.row.now (omega arith))))
