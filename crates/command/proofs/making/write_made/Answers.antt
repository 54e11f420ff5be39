use Rattle.std.proofs.Common.{◌+◌, ◌-◌, ◌∙◌, arith}
use Rattle.b3.specs.inside.Output.{output_position, output_root}
use Rattle.source.proofs.Writing.{Writing-step, Writes-exit, Writing-failed}
use Rattle.command.proofs.Digits.{Writing-slice, printed-slice}
use Rattle.command.proofs.making.write_made.Goals as goal

pub returns-in_err-write_bytes : goal.returns-in_err-write_bytes
returns-in_err-write_bytes g c =
    let count = c.min-count.ensures in
    let piece = rw (c.unwrap.ensures, c.loop-left.invariant.root, c.split_at_mut-piece.ensures.front_len)
    at c.fill.ensures.bytes in
    rw c.in-Output.is (Writes-exit _ _ _ _ c.from_residual.ensures.0
    (Writing-failed _ _ _ _ _ _ _ (printed-slice c.args.is_raw (output_root c.in-Output.output) _ (output_position
    c.loop-left.output + c.min-count.result) _ c.min-count.result (c.loop-left.left - c.min-count.result)
    (omega arith) (omega arith)) c.loop-left.invariant.progress
    (rw piece at c.in_err-write_bytes.ensures)))

pub loop-left-preserved : goal.loop-left-preserved
loop-left-preserved g c =
    let count = c.min-count.ensures in
    let within = c.loop-left.invariant.within in
    let moved = rw (c.unwrap.ensures, c.split_at_mut-piece.ensures.front_len) at c.fill.ensures.moved in
    let piece = rw (c.unwrap.ensures, c.loop-left.invariant.root, c.split_at_mut-piece.ensures.front_len)
    at c.fill.ensures.bytes in
    record {
      within = omega arith;
      root = c.fill.ensures.kept ∙ c.loop-left.invariant.root;
      progress = Writing-step _ _ _ _ _ _ _ (printed-slice c.args.is_raw (output_root c.in-Output.output) _
          (output_position c.fill.new.self) _ c.min-count.result (c.loop-left.left - c.min-count.result)
          (omega arith) moved) c.loop-left.invariant.progress
          (rw piece at c.in_ok-write_bytes.ensures);
    }

pub returns : goal.returns
returns g c =
    rw c.in-Output.is (Writing-slice c.args.is_raw _ _ _ (output_root c.in-Output.output)
    (output_position c.loop-left.output) _ c.loop-left-test.false c.loop-left.invariant.progress)
