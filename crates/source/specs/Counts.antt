-- How failures are counted.
use Rattle.std.specs.Prelude.{◌≡◌, ℕ, ◌+◌, ◌-◌, ◌^◌, min, max, Result, MatchResult}

-- a count after k more failures: it stops at `u64::MAX`
abbrev pub count_after : ℕ → ℕ → ℕ
count_after n k = max n (min (n + k) (2 ^ 64 - 1))

-- a count after one more failure
abbrev pub next_count : ℕ → ℕ
next_count n = count_after n 1

-- an `Err` is one more failure, and an `Ok` none
abbrev pub CountsFailure : {T E : Type 0} → Result T E → ℕ → ℕ → Type 0
CountsFailure r old new = MatchResult r (λ _. new ≡ old) (λ _. new ≡ next_count old)
