-- Words of a schedule and rounds, one after the other.
use Rattle.std.proofs.lemmas.Grind.{common_steps}
use Rattle.std.proofs.Common.{◌≡◌, ℕ, ◌<◌, ◌+◌, ◌-◌, List, slice_index, length, slice_set, arith}
use Rattle.sha2.proofs.Schedule512.{rounds_next, slice_index-schedule_next}
use Rattle.sha2.specs.Sha512.{add64, round, round_constants, rounds, schedule, small_sigma0, small_sigma1}
use Rattle.sha_blocks.specs.inside.Schedules512.{IsAhead, IsKeyedTo, IsWrittenTo}
use Rattle.sha_blocks.proofs.Rounds.{filled_more}

-- ---- the schedule

-- the word after sixteen others
pub next_word_at : (b : List ℕ) (t : ℕ) → t + 16 < 80 → (a x y z u : ℕ)
    → a ≡ add64 (add64 (add64 (small_sigma1 x) y) (small_sigma0 z)) u
    → x ≡ slice_index (schedule b 64) (t + 14) → y ≡ slice_index (schedule b 64) (t + 9)
    → z ≡ slice_index (schedule b 64) (t + 1) → u ≡ slice_index (schedule b 64) t
    → a ≡ slice_index (schedule b 64) (t + 16)
next_word_at b t fits a x y z u made ex ey ez eu = grind (arith, slice_index, slice_index-schedule_next)

-- one more word in a lane
pub IsWrittenTo_more : (b : List ℕ) (n i : ℕ) (w : List (List ℕ)) (x : List ℕ) → n < length w → IsWrittenTo b n i w
    → slice_index x i ≡ slice_index (schedule b 64) n → IsWrittenTo b (n + 1) i (slice_set w n x)
IsWrittenTo_more b n i w x fits before word = grind (arith, common_steps, filled_more, slice_index)

-- one more with its constant added
pub IsKeyedTo_more : (b : List ℕ) (n i x : ℕ) (out : List (List ℕ)) (y : List ℕ) → n < length out
    → IsKeyedTo b n i out → x ≡ slice_index (schedule b 64) n
    → slice_index y i ≡ add64 (slice_index round_constants n) x → IsKeyedTo b (n + 1) i (slice_set out n y)
IsKeyedTo_more b n i x out y room before word key = grind (arith, common_steps, filled_more, slice_index)

-- the same number of words, spelled another way
pub IsAhead_at : (b : List ℕ) (m n i : ℕ) (w out : List (List ℕ)) → m ≡ n → IsAhead b m i w out
    → IsAhead b n i w out
IsAhead_at b m n i w out e at = rw (← e) at

-- ---- rounds

-- one more round
pub round_at : (h b : List ℕ) (m n : ℕ) (v next : List ℕ) (key : ℕ) → n ≡ m + 1 → v ≡ rounds h (schedule b 64) m
    → key ≡ add64 (slice_index round_constants m) (slice_index (schedule b 64) m)
    → ((k w : ℕ) → key ≡ add64 k w → next ≡ round v k w) → next ≡ rounds h (schedule b 64) n
round_at h b m n v next key e before keyed made = grind (arith, common_steps, rounds_next, slice_index)
