use Rattle.std.proofs.Common.{inl, inr}
use Rattle.task.proofs.hashing.refused_others.Goals as goal

pub returns-in-Sha256 : goal.returns-in-Sha256
returns-in-Sha256 c = elim c.in-Sha256.is [
  | inl is ↦ rw is c.absent-in-Sha256.ensures
  | inr is ↦ rw is c.absent-in-Sha256.ensures
]
