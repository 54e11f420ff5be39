-- Rounds of one block, four words of its schedule in a vector.
use Rattle.std.proofs.Common.{◌≡◌, ℕ, ◌+◌, ◌*◌, ◌<◌, ◌∙◌, List, [], ◌∷◌, ap, arith, slice_index, slice_index_or}
use Rattle.sha2.specs.Sha256.{schedule}
use Rattle.words.proofs.LaneLemmas.{below_four}
use Rattle.sha_blocks.specs.inside.Quads.{AreQuads, IsAtRound, IsQuad}

-- one of four vectors
pub quad_of : (b : List ℕ) (t u k : ℕ) (w : List (List ℕ)) → u ≡ t + 4 * k → k < 4 → AreQuads b t w
    → IsQuad b u (slice_index_or w k [])
quad_of b t u k w e h words = λ i lt. words k h i lt ∙ ap (slice_index (schedule b 48)) (omega arith)

-- four vectors
pub quads_of : (b : List ℕ) (t : ℕ) (w0 w1 w2 w3 : List ℕ) → IsQuad b t w0 → IsQuad b (t + 4) w1
    → IsQuad b (t + 8) w2 → IsQuad b (t + 12) w3 → AreQuads b t (w0 ∷ w1 ∷ w2 ∷ w3 ∷ [])
quads_of b t w0 w1 w2 w3 q0 q1 q2 q3 = grind (arith, slice_index, below_four)

-- the same round, spelled another way
pub at_round : (h b : List ℕ) (m n : ℕ) (v : List ℕ) (w : List (List ℕ)) → m ≡ n → IsAtRound h b m v w
    → IsAtRound h b n v w
at_round h b m n v w e at = rw (← e) at
