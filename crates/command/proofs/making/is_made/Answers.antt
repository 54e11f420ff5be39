use Rattle.command.proofs.Comparing.{other_length}
use Rattle.command.proofs.making.is_made.Goals as goal

pub returns-then-length-wanted : goal.returns-then-length-wanted
returns-then-length-wanted c = rw c.in-Output.is (other_length _ _ _ c.args.wanted.now c.if-length-wanted.true)
