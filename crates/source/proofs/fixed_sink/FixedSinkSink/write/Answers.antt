use Rattle.std.proofs.Common.{arith, ◌∙◌, length-drop, length-take-le, sym}
use Rattle.std.proofs.lemmas.List.{drop-drop}
use Rattle.std.proofs.lemmas.Slice.{drop-put_mid}
use Rattle.source.proofs.fixed_sink.FixedSinkSink.write.Goals as goal

pub returns-clause-rest : goal.returns-clause-rest
returns-clause-rest c =
    let len = c.args.self.now.len in
    let room = length-drop len c.args.self.now.buffer.now in
    let taken = c.copy_from_slice.ensures.len
    ∙ length-take-le _ _ (omega (arith, room, c.min-count.ensures)) in
    drop-put_mid len _ c.args.self.now.buffer.now _ _ (omega arith) c.args.self.now.within taken
    ∙ sym (drop-drop c.min-count.result len c.args.self.now.buffer.now)
