-- Words of a schedule and rounds, one after the other.
use Rattle.std.proofs.lemmas.Grind.{common_steps}
use Rattle.std.proofs.Common.{◌≡◌, ℕ, ◌<◌, ◌+◌, ◌-◌, ◌*◌, List, slice_index, arith, ap, ◌∙◌, zero-add, below_more}
use Rattle.std.proofs.Common.{get_or, get_or-set_other, get_or-set_same, length, slice_set}
use Rattle.sha2.proofs.Schedule256.{rounds_next, slice_index-schedule_first, slice_index-schedule_next}
use Rattle.sha2.specs.Sha256.{add32, round, round_constants, rounds, schedule, small_sigma0, small_sigma1, word_at}
use Rattle.sha_blocks.specs.inside.Schedules.{IsAhead, IsKeyedTo}

-- one more place of a list that is filled from its front
pub filled_more : {X : Type 0} (P : ℕ → X → Type 0) (xs : List X) (n : ℕ) (x d : X) → n < length xs
    → ((k : ℕ) → k < n → P k (get_or xs k d)) → P n x → (k : ℕ) → k < n + 1 → P k (get_or (slice_set xs n x) k d)
filled_more P xs n x d fits before now = grind (arith, common_steps, below_more, get_or, slice_set, get_or-set_other, get_or-set_same)

-- ---- the schedule

-- the words of a block are the first of its schedule
pub scheduled : (b : List ℕ) (f : ℕ → ℕ) → ((k : ℕ) → k < 16 → f k ≡ word_at b (4 * k))
    → (k : ℕ) → k < 16 → f k ≡ slice_index (schedule b 48) (0 + k)
scheduled b f each k below = grind (arith, common_steps, slice_index-schedule_first, slice_index, zero-add)

-- the word after sixteen others
pub next_word_at : (b : List ℕ) (t k : ℕ) → t + (16 + k) < 64 → (a x y z u : ℕ)
    → a ≡ add32 (add32 (add32 (small_sigma1 x) y) (small_sigma0 z)) u
    → x ≡ slice_index (schedule b 48) (t + (14 + k)) → y ≡ slice_index (schedule b 48) (t + (9 + k))
    → z ≡ slice_index (schedule b 48) (t + (1 + k)) → u ≡ slice_index (schedule b 48) (t + k)
    → a ≡ slice_index (schedule b 48) (t + (16 + k))
next_word_at b t k fits a x y z u made ex ey ez eu = grind (arith, slice_index-schedule_next)

pub sixteen_on : (ws : List ℕ) (t : ℕ) (f : ℕ → ℕ) → ((k : ℕ) → k < 16 → f k ≡ slice_index ws (t + (16 + k)))
    → (k : ℕ) → k < 16 → f k ≡ slice_index ws (t + 16 + k)
sixteen_on ws t f each k below = each k below ∙ ap (slice_index ws) (omega arith)

-- one more word in a lane, with the constant of its round added
pub IsKeyedTo_more : (b : List ℕ) (n i : ℕ) (out : List (List ℕ)) (x y : List ℕ) → n < length out → IsKeyedTo b n i out
    → slice_index x i ≡ slice_index (schedule b 48) n
    → slice_index y i ≡ add32 (slice_index round_constants n) (slice_index x i)
    → IsKeyedTo b (n + 1) i (slice_set out n y)
IsKeyedTo_more b n i out x y room before word key = grind (arith, common_steps, filled_more, slice_index)

-- the same number of words, spelled another way
pub IsKeyedTo_at : (b : List ℕ) (m n i : ℕ) (out : List (List ℕ)) → m ≡ n → IsKeyedTo b m i out → IsKeyedTo b n i out
IsKeyedTo_at b m n i out e at = rw (← e) at

-- one more word in a lane
pub IsAhead_more : (b : List ℕ) (n i : ℕ) (w out : List (List ℕ)) (x y : List ℕ) → n < length w → n < length out
    → IsAhead b n i w out → slice_index x i ≡ slice_index (schedule b 48) n
    → slice_index y i ≡ add32 (slice_index round_constants n) (slice_index x i)
    → IsAhead b (n + 1) i (slice_set w n x) (slice_set out n y)
IsAhead_more b n i w out x y fits room before word key = grind (arith, common_steps, filled_more, slice_index, IsKeyedTo_more)

-- the same number of words, spelled another way
pub IsAhead_at : (b : List ℕ) (m n i : ℕ) (w out : List (List ℕ)) → m ≡ n → IsAhead b m i w out
    → IsAhead b n i w out
IsAhead_at b m n i w out e at = rw (← e) at

-- ---- rounds

-- one more round
pub round_at : (h b : List ℕ) (m n : ℕ) (v next : List ℕ) (key : ℕ) → n ≡ m + 1 → v ≡ rounds h (schedule b 48) m
    → key ≡ add32 (slice_index round_constants m) (slice_index (schedule b 48) m)
    → ((k w : ℕ) → key ≡ add32 k w → next ≡ round v k w) → next ≡ rounds h (schedule b 48) n
round_at h b m n v next key e before keyed made = grind (arith, common_steps, rounds_next, slice_index)
