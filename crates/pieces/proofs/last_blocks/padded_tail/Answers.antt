use Rattle.std.proofs.Common.{◌≡◌, ◌+◌, ◌-◌, ◌∙◌, ap, arith, length, take, drop, List, ℕ}
use Rattle.blake2.proofs.Starting.{padded_from}
use Rattle.pieces.proofs.PieceChains.{length_padded, length_piece}
use Rattle.pieces.proofs.last_blocks.padded_tail.Goals as goal

pub returns-clause-value : goal.returns-clause-value
returns-clause-value g c =
    let size : c.args.at + c.args.len - c.args.at ≡ c.args.len = omega arith in
    padded_from g.row.N _ (take c.args.len (drop c.args.at c.args.bytes.now))
    (rw size at c.write_at.ensures.front) (rw size at c.write_at.ensures.rest)

pub returns-clause-whole : goal.returns-clause-whole
returns-clause-whole g c =
    let tail : List ℕ = take c.args.len (drop c.args.at c.args.bytes.now) in
    let size : length tail ≡ c.args.len = length_piece c.args.bytes.now c.args.at c.args.len c.requires.fits in
    ap (λ (xs : List ℕ). length xs) (returns-clause-value g c) ∙ length_padded g.row.N tail (omega arith)
