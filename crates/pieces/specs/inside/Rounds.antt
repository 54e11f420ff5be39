-- Rounds of SHA-2 in lanes, while the words of the schedules are made.
use Rattle.std.specs.Prelude.{◌≡◌, ℕ, ◌<◌, ◌+◌, List, slice_index}
use Rattle.words.specs.inside.Lanes.{lane8, lane_at}

-- lane i of the first n vectors has the words of a schedule
abbrev pub HasWords : List ℕ → ℕ → ℕ → List (List ℕ) → Type 0
HasWords schedule n i w = (k : ℕ) → k < n → lane_at w k i ≡ slice_index schedule k

-- lane i of v has the working variables after t rounds, and lane i of w has the words for sixteen rounds more
abbrev pub IsAfterRounds : (ℕ → List ℕ) → List ℕ → ℕ → ℕ → List (List ℕ) → List (List ℕ) → Type 0
IsAfterRounds after schedule t i v w = (lane8 i v ≡ after t) × HasWords schedule (t + 16) i w
