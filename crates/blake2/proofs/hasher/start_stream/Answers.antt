use Rattle.blake2.proofs.Starting.{input_keyed, input_unkeyed}
use Rattle.blake2.proofs.hasher.start_stream.Goals as goal

pub returns-then-is_empty : goal.returns-then-is_empty
returns-then-is_empty g c =
    rw (← input_unkeyed g.C.Chain.variant c.args.key.now c.if-is_empty.ensures) c.empty_stream-stream.ensures.held

pub returns : goal.returns
returns g c =
    rw (
      ← input_keyed g.C.Chain.variant c.args.key.now g.row.N c.if-is_empty.ensures g.met.C.Chain.block,
      ← c.padded_block-block.ensures,
    )
    (c.update.ensures.held _ _ c.empty_stream-stream.ensures.held)
