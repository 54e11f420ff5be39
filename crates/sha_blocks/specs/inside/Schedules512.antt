-- The schedules of four blocks of SHA-512 side by side: word t of block i stands in lane i of vector t.
use Rattle.std.specs.Prelude.{◌≡◌, ℕ, ◌<◌, List, [], length, slice_index, slice_index_or}
use Rattle.sha2.specs.Sha512.{add64, round_constants, schedule}
use Rattle.words.specs.inside.Lanes.{lane_at}

-- lane i of the first n vectors has the words of the schedule of b
abbrev pub IsWrittenTo : List ℕ → ℕ → ℕ → List (List ℕ) → Type 0
IsWrittenTo b n i w = (k : ℕ) → k < n → lane_at w k i ≡ slice_index (schedule b 64) k

-- the same, each word with the constant of its round added
abbrev pub IsKeyedTo : List ℕ → ℕ → ℕ → List (List ℕ) → Type 0
IsKeyedTo b n i out = (k : ℕ) → k < n
    → lane_at out k i ≡ add64 (slice_index round_constants k) (slice_index (schedule b 64) k)

-- both
abbrev pub IsAhead : List ℕ → ℕ → ℕ → List (List ℕ) → List (List ℕ) → Type 0
IsAhead b n i w out = IsWrittenTo b n i w × IsKeyedTo b n i out

-- these are the schedules of a run of four blocks
abbrev pub AreKeyed : List (List ℕ) → List (List ℕ) → Type 0
AreKeyed run out = (length run ≡ 4) × ((i : ℕ) → i < 4 → IsKeyedTo (slice_index_or run i []) 80 i out)
