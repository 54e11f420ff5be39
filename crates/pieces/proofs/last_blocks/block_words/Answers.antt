use Rattle.std.proofs.Common.{◌≡◌, ℕ, ◌<◌, ◌*◌, ap, arith, ◌∙◌, List, take, drop, slice_index_or, []}
use Rattle.words.specs.Words.{words}
use Rattle.words.specs.inside.Lanes.{lane}
use Rattle.words.proofs.LaneLemmas.{below_eight}
use Rattle.pieces.proofs.PieceChains.{row_of}
use Rattle.pieces.proofs.last_blocks.block_words.Goals as goal

pub returns : goal.returns
returns c =
    let bs : List (List ℕ) = c.args.blocks.now in
    let row : (j : ℕ) → j < 8
    → words 4 16 (take 64 (drop (64 * j) c.as_flattened.result.now)) ≡ words 4 16 (slice_index_or bs j []) =
    λ j l. ap (λ (ys : List ℕ). words 4 16 (take 64 (drop (64 * j) ys))) c.as_flattened.ensures.value
    ∙ ap (words 4 16) (row_of 64 bs (λ k m. c.requires k (omega arith)) j (omega arith)) in
    below_eight (λ j. lane j c.message_lanes.result ≡ words 4 16 (slice_index_or bs j []))
    (c.message_lanes.ensures 0 (omega arith) ∙ row 0 (omega arith))
    (c.message_lanes.ensures 1 (omega arith) ∙ row 1 (omega arith))
    (c.message_lanes.ensures 2 (omega arith) ∙ row 2 (omega arith))
    (c.message_lanes.ensures 3 (omega arith) ∙ row 3 (omega arith))
    (c.message_lanes.ensures 4 (omega arith) ∙ row 4 (omega arith))
    (c.message_lanes.ensures 5 (omega arith) ∙ row 5 (omega arith))
    (c.message_lanes.ensures 6 (omega arith) ∙ row 6 (omega arith))
    (c.message_lanes.ensures 7 (omega arith) ∙ row 7 (omega arith))
