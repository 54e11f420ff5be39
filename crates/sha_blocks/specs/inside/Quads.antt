-- The schedule of one block of SHA-256, four words in a vector.
use Rattle.std.specs.Prelude.{◌≡◌, ℕ, ◌<◌, ◌+◌, ◌*◌, List, slice_index}
use Rattle.sha2.specs.Sha256.{rounds, schedule}
use Rattle.words.specs.inside.Lanes.{lane_at}

-- x has the four words from t on
abbrev pub IsQuad : List ℕ → ℕ → List ℕ → Type 0
IsQuad b t x = (i : ℕ) → i < 4 → slice_index x i ≡ slice_index (schedule b 48) (t + i)

-- w has the sixteen words from t on
abbrev pub AreQuads : List ℕ → ℕ → List (List ℕ) → Type 0
AreQuads b t w = (k : ℕ) → k < 4 → (i : ℕ) → i < 4 → lane_at w k i ≡ slice_index (schedule b 48) (t + (4 * k + i))

-- the working words before round t, and the sixteen words of the schedule from there on
abbrev pub IsAtRound : List ℕ → List ℕ → ℕ → List ℕ → List (List ℕ) → Type 0
IsAtRound h b t v w = (v ≡ rounds h (schedule b 48) t) × AreQuads b t w
