use Rattle.std.proofs.Common.{refl, arith}
use Rattle.std.proofs.lemmas.Slice.{take-put_mid, drop-put_mid}
use Rattle.words.proofs.writing.write_at.Goals as goal

pub returns : goal.returns
returns g c = record {
  front = rw c.copy_from_slice.ensures.after
      (take-put_mid c.args.at _ c.args.buffer.now c.args.bytes.now _ refl (omega arith));
  rest = rw c.copy_from_slice.ensures.after
      (drop-put_mid c.args.at _ c.args.buffer.now c.args.bytes.now _ (omega arith) (omega arith) (omega arith));
}
