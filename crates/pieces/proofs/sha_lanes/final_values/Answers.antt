use Rattle.std.proofs.Common.{◌≡◌, ◌≤◌, ◌+◌, ◌-◌, ◌*◌, ◌%◌, ◌∙◌, [], ℕ, List, ap, arith, length, length-append}
use Rattle.std.proofs.Common.{replicate, slice_index, slice_index_or}
use Rattle.std.proofs.lemmas.List.{length-replicate}
use Rattle.std.proofs.Math.Nat.{mul-le-mul_left}
use Rattle.pieces.specs.inside.Blocks.{padding, taken}
use Rattle.pieces.proofs.Tails.{block_of_row, ended}
use Rattle.pieces.proofs.sha_lanes.final_values.Goals as goal

pub returns : goal.returns
returns g c = λ i lt p is.
    let v = g.met.V.HashValue in
    let n : ℕ = g.row.N in
    let x : List ℕ = c.args.bytes.now in
    let len : ℕ = slice_index c.args.lens.now i in
    let start : ℕ = slice_index c.args.starts.now i in
    let count : List ℕ = slice_index_or c.args.counts.now i [] in
    let left : ℕ = slice_index c.counts_left-left.result i in
    let size : length count ≡ g.row.C = c.requires.sized i lt in
    let zeros : ℕ = (2 * n - 1 - length count - len % n) % n in
    let filled : n * left ≡ len % n + length (padding n count len) =
    rw (← size) at c.counts_left-left.ensures.filled i lt
    ∙ omega (arith, length-append (replicate zeros 0) count, length-replicate {A = ℕ} zeros 0) in
    let whole = c.take_each.ensures i lt
    ∙ ap (taken g.H.HashValues.made n (g.H.HashValues.lane i c.args.first) x start)
    (c.whole_blocks-whole.ensures i lt) in
    ended g.V.HashValue.words_after g.V.HashValue.compressed g.H.HashValues.made n v.positive v.on_front v.next_block
    c.requires.made x c.as_flattened-rest.result.now (slice_index_or c.tails-tails.result i []) (padding n count len) p
    _ _ _ start len (slice_index c.starts_of.result i) left (c.requires.fits i lt) (c.requires.begun i lt) whole
    (c.tails-tails.ensures.value i lt) filled
    (λ j below.
    let few : n * (j + 1) ≤ n * 2 = mul-le-mul_left n (omega (arith, c.counts_left-left.ensures.few i lt)) in
    block_of_row n g.row.TWO i (slice_index c.starts_of.result i) j c.tails-tails.result _
    c.as_flattened-rest.ensures.value (λ k within. c.tails-tails.ensures.whole k (omega arith)) (omega arith)
    (c.starts_of.ensures.place i lt lt) (omega (arith, few, c.requires.two)))
    (c.take_each-2.ensures i lt) is
