use Rattle.std.proofs.Common.{◌≡◌, ℕ, ◌<◌, ◌*◌, ap, arith, ◌∙◌, List, take, drop, slice_index_or, []}
use Rattle.words.specs.Words.{words}
use Rattle.words.specs.inside.Lanes.{lane}
use Rattle.words.proofs.LaneLemmas.{below_four}
use Rattle.pieces.proofs.PieceChains.{row_of}
use Rattle.pieces.proofs.blake2b_lanes.block_words.Goals as goal

pub returns : goal.returns
returns c =
    let bs : List (List ℕ) = c.args.blocks.now in
    let row : (j : ℕ) → j < 4
    → words 8 16 (take 128 (drop (128 * j) c.as_flattened.result.now)) ≡ words 8 16 (slice_index_or bs j []) =
    λ j l. ap (λ (ys : List ℕ). words 8 16 (take 128 (drop (128 * j) ys))) c.as_flattened.ensures.value
    ∙ ap (words 8 16) (row_of 128 bs (λ k m. c.requires k (omega arith)) j (omega arith)) in
    below_four (λ j. lane j c.message_lanes.result ≡ words 8 16 (slice_index_or bs j []))
    (c.message_lanes.ensures 0 (omega arith) ∙ row 0 (omega arith))
    (c.message_lanes.ensures 1 (omega arith) ∙ row 1 (omega arith))
    (c.message_lanes.ensures 2 (omega arith) ∙ row 2 (omega arith))
    (c.message_lanes.ensures 3 (omega arith) ∙ row 3 (omega arith))
