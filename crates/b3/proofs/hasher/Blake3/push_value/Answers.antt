use Rattle.std.proofs.Common.{refl}
use Rattle.b3.proofs.Holding.{IsSplit_subtree}
use Rattle.b3.proofs.hasher.Blake3.push_value.Goals as goal

pub push-requires-clause-power : goal.push-requires-clause-power
push-requires-clause-power c = (c.args.level, c.subtree_chunks.ensures)

pub push-requires-clause-aligned : goal.push-requires-clause-aligned
push-requires-clause-aligned c = rw c.subtree_chunks.ensures c.requires.aligned

pub returns-clause-split : goal.returns-clause-split
returns-clause-split c = λ m y held size is.
    IsSplit_subtree c.args.self.now _ m y c.args.value c.subtree_chunks.result held c.requires.empty
    (rw c.subtree_chunks.ensures size) c.push.ensures.parameters c.push.ensures.closed refl is c.push.ensures.holds
