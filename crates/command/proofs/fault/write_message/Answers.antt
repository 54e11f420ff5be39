use Rattle.std.proofs.Common.{codes}
use Rattle.source.proofs.Writing.{Failed-after, Failed-more, Writes-after, Writes-exit}
use Rattle.command.specs.Visible.{visible}
use Rattle.command.specs.inside.Messages.{message_text}
use Rattle.command.proofs.fault.write_message.Goals as goal

pub returns-in_err-write_all : goal.returns-in_err-write_all
returns-in_err-write_all g c =
    Writes-exit _ _ _ _ c.from_residual.ensures.0
    (Failed-more _ _ (codes "sums: ") (message_text c.args.message) c.in_err-write_all.ensures)

pub returns-in_err-write_visible : goal.returns-in_err-write_visible
returns-in_err-write_visible g c =
    Writes-exit _ _ _ _ c.from_residual-in_err-write_visible.ensures.0 (Failed-after _ _ _ (codes "sums: ") _
    c.in_ok-write_all.ensures (Failed-more _ _ (visible c.args.message.name.now) _ c.in_err-write_visible.ensures))

pub returns-in_err-write_all-in-None : goal.returns-in_err-write_all-in-None
returns-in_err-write_all-in-None g c =
    Writes-exit _ _ _ _ c.from_residual-in_err-write_all-in-None.ensures.0 (Failed-after _ _ _ (codes "sums: ") _
    c.in_ok-write_all.ensures (Failed-after _ _ _ (visible c.args.message.name.now) _ c.in_ok-write_visible.ensures
    (Failed-more _ _ c.args.message.text.now _ (rw c.as_bytes.ensures.value at c.in_err-write_all-in-None.ensures))))

pub returns-in-Some : goal.returns-in-Some
returns-in-Some g c =
    rw c.in-Some.is (Writes-after _ _ _ _ (codes "sums: ") _ c.in_ok-write_all.ensures
    (Writes-after _ _ _ _ (visible c.args.message.name.now) _ c.in_ok-write_visible.ensures c.write_number.ensures))

pub returns-in_ok-write_all-in-None : goal.returns-in_ok-write_all-in-None
returns-in_ok-write_all-in-None g c =
    rw c.in-None.is (Writes-after _ _ _ _ (codes "sums: ") _ c.in_ok-write_all.ensures
    (Writes-after _ _ _ _ (visible c.args.message.name.now) _ c.in_ok-write_visible.ensures
    (Writes-after _ _ _ _ c.args.message.text.now _ (rw c.as_bytes.ensures.value at c.in_ok-write_all-in-None.ensures)
    (rw c.as_bytes-in-None.ensures.value at c.write_all-in-None-2.ensures))))
