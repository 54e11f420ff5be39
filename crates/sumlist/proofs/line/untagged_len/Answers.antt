use Rattle.std.proofs.Common.{ap, length}
use Rattle.hashes.specs.declared.kind.Kind.TheVariants.{Blake2b}
use Rattle.sumlist.proofs.LineCases.{stated_any, untagged_unstated}
use Rattle.sumlist.proofs.line.untagged_len.Goals as goal

pub returns-in_err-tag : goal.returns-in_err-tag
returns-in_err-tag c =
    rw c.from_residual.ensures (untagged_unstated c.args.line.now c.args.kind _ c.without_cr.ensures c.requires.line
    c.requires.malformed c.in_err-tag.ensures)

pub returns : goal.returns
returns c =
    let found = c.in_ok-tag.ensures in (
      Blake2b,
      _,
      stated_any c.args.line.now c.args.kind _ c.without_cr.ensures c.requires.line c.requires.malformed _ found.1,
      ap length c.bytes.ensures.value,
    )
