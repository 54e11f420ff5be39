use Rattle.std.proofs.Common.{◌≡◌, ℕ, ◌*◌, List, [], drop, refl, arith, ap, ◌∙◌, length-drop}
use Rattle.std.proofs.lemmas.List.{take_rest, drop_all}
use Rattle.b3.specs.Node.{cv}
use Rattle.b3.proofs.Blocks.{IsChunk_same}
use Rattle.b3.proofs.Holding.{IsSplit_add}
use Rattle.b3.proofs.hasher.Blake3.open_chunk.Goals as goal

pub returns-clause-split : goal.returns-clause-split
returns-clause-split c = λ m held before.
    let bytes : List ℕ = c.args.bytes.now in
    let nothing : drop (1024 * c.args.self.now.stack.closed) m ≡ [] = drop_all (1024 * c.args.self.now.stack.closed) m
    (omega (arith, held.open_chunk.len, length-drop (1024 * c.args.self.now.stack.closed) m, c.requires.empty)) in
    let filled = c.full-self.ensures.holds c.args.self.now.stack.parameters.key bytes
    c.args.self.now.stack.parameters.flags c.args.self.now.stack.closed
    c.requires.whole before (take_rest bytes 960) in
    IsSplit_add c.args.self.now _ m bytes bytes held refl (rw nothing filled) refl

pub invariant_of-self-clause-made_fits : goal.invariant_of-self-clause-made_fits
invariant_of-self-clause-made_fits c = λ v is x held.
    let stack = c.args.self.now.stack in
    let bytes : List ℕ = c.args.bytes.now in
    let known = c.requires.made v is in
    let filled = c.full-self.ensures.holds stack.parameters.key bytes stack.parameters.flags stack.closed
    c.requires.whole known.0 (take_rest bytes 960) in
    known.1 ∙ ap cv (IsChunk_same stack.parameters.key stack.parameters.flags stack.closed c.full-self.result bytes x
    filled held (omega arith) c.full-self.result.fits)
