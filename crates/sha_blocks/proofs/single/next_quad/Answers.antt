use Rattle.std.proofs.Common.{ℕ, ◌<◌, ◌∙◌, ap, arith, slice_index}
use Rattle.sha2.specs.Sha256.{schedule}
use Rattle.words.proofs.LaneLemmas.{below_four}
use Rattle.sha_blocks.proofs.Rounds.{next_word_at}
use Rattle.sha_blocks.proofs.single.next_quad.Goals as goal

pub returns : goal.returns
returns c b t fits w =
    let next = next_word_at b t in
    let front = λ (i : ℕ) (h : i < 4).
    rw (c.one_on-second.ensures, c.one_on-tenth.ensures, c.last_two.ensures) at (c.next_words-front.ensures i h) in
    let back = λ (i : ℕ) (h : i < 4).
    rw (c.one_on-second.ensures, c.one_on-tenth.ensures, c.first_two.ensures) at (c.next_words-back.ensures i h) in
    let w0 = w 0 (omega arith) in
    let w1 = w 1 (omega arith) in
    let w2 = w 2 (omega arith) in
    let w3 = w 3 (omega arith) in
    let a0 = next 0 (omega arith) _ _ _ _ _ (front 0 (omega arith))
    (w3 2 (omega arith)) (w2 1 (omega arith)) (w0 1 (omega arith)) (w0 0 (omega arith)) in
    let a1 = next 1 (omega arith) _ _ _ _ _ (front 1 (omega arith))
    (w3 3 (omega arith)) (w2 2 (omega arith)) (w0 2 (omega arith)) (w0 1 (omega arith)) in
    let a2 = next 2 (omega arith) _ _ _ _ _ (back 2 (omega arith))
    a0 (w2 3 (omega arith)) (w0 3 (omega arith)) (w0 2 (omega arith)) in
    let a3 = next 3 (omega arith) _ _ _ _ _ (back 3 (omega arith))
    a1 (w3 0 (omega arith)) (w1 0 (omega arith)) (w0 3 (omega arith)) in
    rw c.two_of_each.ensures (below_four _
    (a0 ∙ ap (slice_index (schedule b 48)) (omega arith))
    (a1 ∙ ap (slice_index (schedule b 48)) (omega arith))
    (a2 ∙ ap (slice_index (schedule b 48)) (omega arith))
    (a3 ∙ ap (slice_index (schedule b 48)) (omega arith)))
