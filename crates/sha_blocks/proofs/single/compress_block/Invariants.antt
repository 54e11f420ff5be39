use Rattle.std.proofs.Common.{◌*◌}
use Rattle.sha_blocks.specs.inside.Quads.{IsAtRound}
use Rattle.sha_blocks.proofs.single.compress_block.Given as goal

abbrev pub invariant-turns : goal.invariant-turns
invariant-turns l = IsAtRound l.fn.h l.block (16 * l.turn) l.v l.w
