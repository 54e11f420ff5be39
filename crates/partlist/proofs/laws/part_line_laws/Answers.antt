use Rattle.partlist.proofs.Parsing.{one_meaning}
use Rattle.partlist.proofs.Pieces.{tells_bytes}
use Rattle.partlist.proofs.laws.part_line_laws.Goals as goal

pub returns-clause-one : goal.returns-clause-one
returns-clause-one c = one_meaning

pub returns-clause-bytes : goal.returns-clause-bytes
returns-clause-bytes c = tells_bytes
