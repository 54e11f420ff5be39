use Rattle.sumlist.proofs.Common.{arith}
use Rattle.sumlist.proofs.EscapedNames.{length-escaped-least}
use Rattle.sumlist.proofs.fitting.tagged_fits.Goals as goal

pub returns-then-name-gt-LINE_LIMIT : goal.returns-then-name-gt-LINE_LIMIT
returns-then-name-gt-LINE_LIMIT c = let least = length-escaped-least c.args.name.now in grind arith
