use Rattle.std.proofs.Common.{◌≡◌, ◌≤◌, ◌+◌, ◌-◌, ◌*◌, ◌%◌, ◌++◌, ◌∷◌, ◌∙◌, ℕ, List}
use Rattle.std.proofs.Common.{append_assoc, ap, arith, drop, length, length-append}
use Rattle.std.proofs.Common.{replicate, take}
use Rattle.std.proofs.lemmas.List.{length-replicate}
use Rattle.std.proofs.Math.Nat.{mul-le-mul_left}
use Rattle.pieces.specs.inside.Blocks.{padding}
use Rattle.pieces.proofs.PieceChains.{length_piece}
use Rattle.pieces.proofs.Tails.{length_written, marked_front}
use Rattle.pieces.proofs.sha_lanes.put_tail.Goals as goal

pub returns-clause-value : goal.returns-clause-value
returns-clause-value g c =
    let n : ℕ = g.row.N in
    let count : List ℕ = c.args.count.now in
    let r : ℕ = c.args.len % n in
    let z : ℕ = (2 * n - 1 - length count - r) % n in
    let start : ℕ = c.args.start + (c.args.len - r) in
    let rest : List ℕ = take r (drop start c.args.bytes.now) in
    let place : ℕ = n * c.blocks_left.result - length count in
    let cut : start + r - start ≡ r = omega arith in
    let size : length rest ≡ r = length_piece c.args.bytes.now start r (omega arith) in
    let row : c.put_marked.new.block ≡ rest ++ (0x80 ∷ replicate (g.row.TWO - 1 - r) 0) =
    rw (cut, size) at c.put_marked.ensures in
    let most : n * c.blocks_left.result ≤ n * 2 = mul-le-mul_left n c.blocks_left.ensures.few in
    let filled : n * c.blocks_left.result ≡ r + (1 + z + length count) = c.blocks_left.ensures.filled in
    let all : r + length (padding n count c.args.len) ≡ place + length count =
    omega (arith, filled, length-append (replicate z 0) count, length-replicate {A = ℕ} z 0) in
    let before : place ≡ r + (z + 1) = omega (arith, filled) in
    let front : take place c.put_marked.new.block ≡ rest ++ (0x80 ∷ replicate z 0) =
    rw (before, row) (marked_front g.row.TWO r z rest size (omega (arith, most, filled, c.requires.two))) in
    rw (all, c.write_at.ensures.front, front) (append_assoc rest (0x80 ∷ replicate z 0) count)

pub returns-clause-whole : goal.returns-clause-whole
returns-clause-whole g c =
    let count : List ℕ = c.args.count.now in
    let most : g.row.N * c.blocks_left.result ≤ g.row.N * 2 = mul-le-mul_left g.row.N c.blocks_left.ensures.few in
    let r : ℕ = c.args.len % g.row.N in
    let start : ℕ = c.args.start + (c.args.len - r) in
    let rest : List ℕ = take (start + r - start) (drop start c.args.bytes.now) in
    let size = length_piece c.args.bytes.now start (start + r - start) (omega arith) in
    let marked : length c.put_marked.new.block ≡ g.row.TWO =
    ap length c.put_marked.ensures
    ∙ omega (
      arith,
      length-append rest (0x80 ∷ replicate (g.row.TWO - 1 - length rest) 0),
      size,
      length-replicate {A = ℕ} (g.row.TWO - 1 - length rest) 0,
      c.requires.two,
      c.requires.count,
    ) in
    length_written (g.row.N * c.blocks_left.result - length count) c.put_marked.new.block c.write_at.new.buffer count
    (omega (arith, marked, most, c.blocks_left.ensures.filled, c.requires.two)) c.write_at.ensures.front
    c.write_at.ensures.rest ∙ marked
