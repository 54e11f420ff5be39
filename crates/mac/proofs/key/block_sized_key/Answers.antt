use Rattle.std.proofs.Common.{◌≤◌, ◌<◌, length, arith, ap, take, ◌∙◌, append-nil}
use Rattle.mac.proofs.Keys.{block_sized_key-short, block_sized_key-long}
use Rattle.words.specs.Words.{padded}
use Rattle.mac.proofs.key.block_sized_key.Goals as goal

pub returns-then-key-BLOCK-clause-value : goal.returns-then-key-BLOCK-clause-value
returns-then-key-BLOCK-clause-value g c =
    let small = g.met.H.BlockHash.numbers.block_is_small in
    let short : length c.args.key.now ≤ g.H.BlockHash.BLOCK = omega (arith, c.BLOCK.ensures) in
    ap (take g.H.BlockHash.BLOCK) c.zero_padded.ensures
    ∙ block_sized_key-short g.H.BlockHash.hash_of g.H.BlockHash.BLOCK 128 c.args.key.now short small

pub returns-clause-value : goal.returns-clause-value
returns-clause-value g c =
    let small = g.met.H.BlockHash.numbers.block_is_small in
    let digest = g.met.H.BlockHash.digest_length c.args.key.now in
    let within = g.met.H.BlockHash.numbers.out_within_block in
    let long : g.H.BlockHash.BLOCK < length c.args.key.now = omega (arith, c.BLOCK.ensures) in
    let fits : length (g.H.BlockHash.hash_of c.args.key.now) ≤ g.H.BlockHash.BLOCK = omega (arith, digest, within) in
    ap (take g.H.BlockHash.BLOCK)
    (c.zero_padded-2.ensures
    ∙ ap (padded 128) (c.bytes.ensures.value ∙ c.hash_both.ensures.digest
    ∙ ap g.H.BlockHash.hash_of (append-nil c.args.key.now)))
    ∙ block_sized_key-long g.H.BlockHash.hash_of g.H.BlockHash.BLOCK 128 c.args.key.now long fits small
