use Rattle.std.proofs.Common.{ℕ, ◌+◌, ◌-◌, List, take, drop, slice_index, arith, ap, length-take-le, length-drop, ◌∙◌}
use Rattle.std.proofs.lemmas.List.{get_or-take, get_or-drop}
use Rattle.std.proofs.lemmas.Simd.{get_or-chunk, length-chunk}
use Rattle.pieces.proofs.lanes2.words64.load.Goals as goal

pub returns-clause-bytes : goal.returns-clause-bytes
returns-clause-bytes c n h =
    let x : List ℕ = c.args.bytes.now in
    let at : ℕ = c.args.at in
    get_or-chunk 0 32 (take (at + 32 - at) (drop at x)) n 0 h
    ∙ ap (λ (k : ℕ). slice_index (take (at + 32 - at) (drop at x)) k) (omega arith)
    ∙ get_or-take (at + 32 - at) (drop at x) n 0 (omega arith)
    ∙ get_or-drop at x n 0

pub returns-clause-whole : goal.returns-clause-whole
returns-clause-whole c =
    let x : List ℕ = c.args.bytes.now in
    let at : ℕ = c.args.at in
    length-chunk 0 32 (take (at + 32 - at) (drop at x))
    (omega (arith, length-take-le (at + 32 - at) (drop at x) (omega (arith, length-drop at x))))
