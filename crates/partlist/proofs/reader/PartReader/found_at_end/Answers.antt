use Rattle.std.proofs.Common.{◌<◌, length, arith}
use Rattle.std.proofs.lemmas.Bool.Decides.{nat_tests}
use Rattle.partlist.proofs.Ahead.{last_line}
use Rattle.partlist.proofs.reader.PartReader.found_at_end.Goals as goal

pub returns-else-is_empty : goal.returns-else-is_empty
returns-else-is_empty c =
    let some : 0 < length c.args.self.now.held.items = grind (arith, nat_tests, c.if-is_empty.ensures) in
    last_line c.args.self.now.held.items some c.requires
