use Rattle.std.proofs.Common.{◌≡◌, ◌≤◌, ◌*◌, ◌∙◌, [], ap, ℕ, length, take, arith, rules, add-one}
use Rattle.mac.specs.Hmac.{hmac}
use Rattle.kdf.specs.Hkdf.{expand_blocks}
use Rattle.kdf.proofs.Blocks.{written_none, written_next, written_more, written_all}
use Rattle.kdf.proofs.expansion.fill.Goals as goal

pub loop-filled-init : goal.loop-filled-init
loop-filled-init g c =
    let none : c.unwrap-block.result ≡ [] = search rules in
    rw none (written_none _ _ _ _)

pub overflow_add-counter : goal.overflow_add-counter
overflow_add-counter g c =
    let fits : length c.loop-filled.out ≤ 255 * g.H.BlockHash.OUT = rw c.loop-filled.auto.out c.requires.output in
    let next = written_next _ _ _ _ _ _ _ c.loop-filled.invariant c.loop-filled-test.true fits in
    omega arith

pub loop-filled-preserved : goal.loop-filled-preserved
loop-filled-preserved g c =
    let fits : length c.loop-filled.out ≤ 255 * g.H.BlockHash.OUT = rw c.loop-filled.auto.out c.requires.output in
    let whole : length c.bytes.result.now ≡ g.H.BlockHash.OUT = ap length c.bytes.ensures.value
    ∙ c.next_block-block.ensures.length in
    let taken = rw whole at c.put-filled.ensures.count in
    let written = rw c.bytes.ensures.value at c.put-filled.ensures.written in
    rw add-one (written_more _ _ _ _ _ _ _ c.loop-filled.invariant _ _ _ c.loop-filled-test.true fits
    (rw add-one at c.next_block-block.ensures.block) c.next_block-block.ensures.length taken c.put-filled.auto.out
    written)

pub returns : goal.returns
returns g c =
    written_all _ _ _ _ _ _ _ c.loop-filled.invariant c.loop-filled-test.false
    ∙ ap (λ (n : ℕ). take n
    (expand_blocks (hmac g.H.BlockHash.hash_of g.H.BlockHash.BLOCK c.args.prk.now) c.args.info.now 255))
    c.loop-filled.auto.out
